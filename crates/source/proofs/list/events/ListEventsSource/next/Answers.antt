use Rattle.std.proofs.Common.{subst}
use Rattle.event.specs.Thins.{Sound}
use Rattle.event.proofs.Sounds.{sound_held, sound_tail}
use Rattle.source.proofs.list.events.ListEventsSource.next.Goals as goal

pub invariant_of-self : goal.invariant_of-self
invariant_of-self c =
    let s = c.args.self.now in
    record { sound = ∣ sound_tail s.counts _ _ (subst (Sound s.counts) c.in_ok-e.ensures.cases.0 (sound_held s.counts s.events.now s.sound)) ∣₁ }
