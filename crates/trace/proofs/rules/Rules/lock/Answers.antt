use Rattle.std.proofs.Common.{rules, refl}
use Rattle.std.proofs.lemmas.List.{map-set}
use Rattle.trace.proofs.Locks.{unchanged}
use Rattle.trace.proofs.rules.Rules.lock.Goals as goal

pub returns-in-Acquire : goal.returns-in-Acquire
returns-in-Acquire c = record { holders = search (rules, map-set); rest = (refl, unchanged _ _ _ _ _ refl, refl) }

pub returns-in-Release : goal.returns-in-Release
returns-in-Release c = record { holders = search (rules, map-set); rest = (refl, unchanged _ _ _ _ _ refl, refl) }
