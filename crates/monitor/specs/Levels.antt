-- Levels: how closely a thread monitors a variable.
use Rattle.std.specs.Prelude.{ℕ, cond, ◌&&◌, List, [], ◌∷◌, take, ◌==◌, nat_lt}
use Rattle.event.specs.declared.letter.Letter.{Letter}
use Rattle.event.specs.declared.letter.Letter.TheVariants.{Read, Write, Acquire, Release, Fork, Join, Begin, End, Strong, Weak, Downgrade, Stop}
use Rattle.event.specs.declared.record.Event.{Event}
use Rattle.monitor.specs.declared.level.Level.{Level}
use Rattle.monitor.specs.declared.level.Level.TheVariants.{None as none, Weak as weak, Strong as strong}

abbrev pub rank : Level → ℕ
rank none = 0
rank weak = 1
rank strong = 2

abbrev pub higher : Level → Level → Level
higher l m = cond (nat_lt (rank l) (rank m)) m l

abbrev pub lower : Level → Level → Level
lower l m = cond (nat_lt (rank l) (rank m)) l m

-- what a letter makes of the level of its event's thread on its event's variable
abbrev pub after : Letter → Level → Level
after Read l = l
after Write l = l
after Acquire l = l
after Release l = l
after Fork l = l
after Join l = l
after Begin l = l
after End l = l
after Strong l = strong
after Weak l = higher l weak
after Downgrade l = lower l weak
after Stop l = none

-- what an event makes of the level of the thread t on the variable v
abbrev pub after_event : ℕ → ℕ → Level → Event → Level
after_event t v l e = cond (e.thread == t && e.number == v) (after e.letter l) l

abbrev pub level_from : Level → List Event → ℕ → ℕ → Level
level_from l [] t v = l
level_from l (e ∷ L) t v = level_from (after_event t v l e) L t v

-- the level of the thread t on the variable v after these events
abbrev pub level : List Event → ℕ → ℕ → Level
level L t v = level_from none L t v

-- moment k is after the first k events
abbrev pub level_at : List Event → ℕ → ℕ → ℕ → Level
level_at L k t v = level (take k L) t v

-- the highest level that an event with this letter fits
abbrev pub worth : Letter → Level
worth Read = weak
worth Write = strong
worth Acquire = none
worth Release = none
worth Fork = none
worth Join = none
worth Begin = none
worth End = none
worth Strong = none
worth Weak = none
worth Downgrade = none
worth Stop = none
