-- The byte of each letter in a trace file.
use Rattle.std.specs.Prelude.{◌≡◌, ℕ, cond, Some, None, Option, Result, ok_or, ◌==◌}
use Rattle.event.specs.declared.letter.Letter.{Letter}
use Rattle.event.specs.declared.letter.UnknownLetter.{UnknownLetter}
use Rattle.event.specs.declared.letter.Letter.TheVariants.{Read, Write, Acquire, Release, Fork, Join, Begin, End, Strong, Weak, Downgrade, Stop}

-- `r w a l f j b e M N D Q`
abbrev pub code : Letter → ℕ
code Read = 114
code Write = 119
code Acquire = 97
code Release = 108
code Fork = 102
code Join = 106
code Begin = 98
code End = 101
code Strong = 77
code Weak = 78
code Downgrade = 68
code Stop = 81

-- the letter that a byte spells
abbrev pub letter_at : ℕ → Option Letter
letter_at b =
    cond (b == 114) (Some Read)
    (cond (b == 119) (Some Write)
    (cond (b == 97) (Some Acquire)
    (cond (b == 108) (Some Release)
    (cond (b == 102) (Some Fork)
    (cond (b == 106) (Some Join)
    (cond (b == 98) (Some Begin)
    (cond (b == 101) (Some End)
    (cond (b == 77) (Some Strong)
    (cond (b == 78) (Some Weak)
    (cond (b == 68) (Some Downgrade)
    (cond (b == 81) (Some Stop) None)))))))))))

-- what a byte is taken for
abbrev pub SpellsLetter : ℕ → Result Letter UnknownLetter → Type 0
SpellsLetter b r = r ≡ ok_or (letter_at b) (record { byte = b })
