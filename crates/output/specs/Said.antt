-- What a program answers.
use Rattle.std.specs.Prelude.{true, vec_items, string_bytes}
use Rattle.output.specs.declared.answer.Answer.{Answer}
use Rattle.output.specs.declared.answer.Answer.TheVariants.{Listed, Refused}
use Rattle.output.specs.Words.{Said, telling}

abbrev pub said : Answer → Said
said (Listed text) = telling (vec_items text)
said (Refused line) = record { refused = true; text = string_bytes line }
