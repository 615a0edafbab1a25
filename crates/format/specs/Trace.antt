-- A whole file, as it is read.
use Rattle.std.specs.Prelude.{ℕ, List, length, Result}
use Rattle.event.specs.declared.record.Event.{Event}
use Rattle.event.specs.declared.counts.Counts.{Counts}
use Rattle.event.specs.Ranges.{nearest}
use Rattle.format.specs.declared.fault.EventFault.TheVariants.{Sections}
use Rattle.format.specs.declared.fault.OrderFault.{OrderFault}
use Rattle.format.specs.declared.fault.OrderFault.TheVariants.{Events}
use Rattle.format.specs.Parse.{map_ok, lift, and_then}
use Rattle.format.specs.Items.{Item}
use Rattle.format.specs.Standings.{fresh, ruled_from, kinds_of, kind_table}
use Rattle.format.specs.Layout.{Layout, layout}

pub record Contents : Type 0 where
  pub threads : List Item
  pub objects : List Item
  pub variables : List Item
  pub events : List Event

abbrev pub contents : List Item → List Item → List Item → List Event → Contents
contents ts os vs es = record { threads = ts; objects = os; variables = vs; events = es }

-- how many of each are declared
abbrev pub declared_counts : List Item → List Item → List Item → Counts
declared_counts ts os vs = nearest (length ts) (length os) (length vs)

-- the events of a file with these sections, each held to the rules
abbrev pub ordered : Layout → Result Contents OrderFault
ordered l =
    map_ok (contents l.threads l.objects l.variables)
    (ruled_from (kind_table (kinds_of l.objects)) (declared_counts l.threads l.objects l.variables) fresh 0 l.count l.block)

abbrev pub read_trace : List ℕ → Result Contents OrderFault
read_trace bs = and_then (lift (λ s. Events (Sections s)) (layout bs)) ordered
