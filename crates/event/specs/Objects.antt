-- What an event releases and what it acquires.
use Rattle.std.specs.Prelude.{ℕ, Some, None, Option}
use Rattle.event.specs.declared.letter.Letter.{Letter}
use Rattle.event.specs.declared.letter.Letter.TheVariants.{Read, Write, Acquire, Release, Fork, Join, Begin, End, Strong, Weak, Downgrade, Stop}
use Rattle.event.specs.declared.object.Object.{Object}
use Rattle.event.specs.declared.object.Object.TheVariants.{Declared, Start, Finish}
use Rattle.event.specs.declared.record.Event.{Event}

-- what an event of thread t with the number n releases
abbrev pub released_by : Letter → ℕ → ℕ → Option Object
released_by Read t n = None
released_by Write t n = None
released_by Acquire t n = None
released_by Release t n = Some (Declared n)
released_by Fork t n = Some (Start n)
released_by Join t n = None
released_by Begin t n = None
released_by End t n = Some (Finish t)
released_by Strong t n = None
released_by Weak t n = None
released_by Downgrade t n = None
released_by Stop t n = None

-- what an event of thread t with the number n acquires
abbrev pub acquired_by : Letter → ℕ → ℕ → Option Object
acquired_by Read t n = None
acquired_by Write t n = None
acquired_by Acquire t n = Some (Declared n)
acquired_by Release t n = None
acquired_by Fork t n = None
acquired_by Join t n = Some (Finish n)
acquired_by Begin t n = Some (Start t)
acquired_by End t n = None
acquired_by Strong t n = None
acquired_by Weak t n = None
acquired_by Downgrade t n = None
acquired_by Stop t n = None

abbrev pub released : Event → Option Object
released e = released_by e.letter e.thread e.number

abbrev pub acquired : Event → Option Object
acquired e = acquired_by e.letter e.thread e.number
