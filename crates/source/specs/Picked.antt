-- What a picker lets through.
use Rattle.std.specs.Prelude.{ℕ, ◌-◌, Bool, true, cond, not, List, [], ◌++◌, length, take, replicate, Ok, Err, Result, ◌==◌, nat_le, slice_index}
use Rattle.event.specs.declared.fault.CallerFault.{CallerFault}
use Rattle.event.specs.declared.fault.CallerFault.TheVariants.{Table}
use Rattle.event.specs.declared.record.Event.{Event}
use Rattle.event.specs.Sieves.{sieved}
use Rattle.event.specs.Thins.{access}
use Rattle.source.specs.declared.picker.Picks.{Picks}

-- every event that is no access passes, and an access to a variable whose byte is not 0
abbrev pub passes : List ℕ → Event → Bool
passes bytes e = cond (access e) (not (slice_index bytes e.number == 0)) true

abbrev pub picked : List ℕ → List Event → List Event
picked bytes L = sieved (λ _ e. passes bytes e) [] L

-- a copy of the first bytes, one for each variable, with 0 for the variables that are not declared
abbrev pub own_bytes : ℕ → List ℕ → List ℕ
own_bytes variables bytes = take variables bytes ++ replicate (256 - variables) 0

-- what is picked by these bytes, if there is one for each variable
abbrev pub picks_for : ℕ → List ℕ → Result Picks CallerFault
picks_for variables bytes = cond (nat_le variables (length bytes)) (Ok (record { bytes = own_bytes variables bytes })) (Err (Table variables))
