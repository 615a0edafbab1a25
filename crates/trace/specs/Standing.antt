-- What the rules remember, as the definition has it.
use Rattle.std.specs.Prelude.{ℕ, List, map, None, Option}
use Rattle.format.specs.declared.kinds.ObjectKind.{ObjectKind}
use Rattle.format.specs.Standings.{Standing, standing}
use Rattle.trace.specs.declared.rules.Rules.{Rules}
use Rattle.trace.specs.declared.rules.lock.Lock.{Lock}

-- an object that nobody holds
abbrev pub free : ObjectKind → Lock
free k = record { kind = k; holder = None }

-- the kind of each object, by its number
abbrev pub kinds_in : Rules → List ObjectKind
kinds_in r = map (λ o. o.kind) r.objects

-- the holder of each object, by its number
abbrev pub holders_in : Rules → List (Option ℕ)
holders_in r = map (λ o. o.holder) r.objects

abbrev pub standing_of : Rules → Standing
standing_of r = standing r.stages (holders_in r)
