-- A length as the code has it: a number is taken for the length of so many samples, and refused where it is none of the eleven.
use Rattle.std.specs.Prelude.{Result, Ok, Err, false, ◌≡◌, ℕ}
use Rattle.lengths.specs.Block.{is_length}
use Rattle.lengths.specs.declared.Length.{Length}
use Rattle.lengths.specs.declared.NoLength.{NoLength}

abbrev pub LengthOf : ℕ → Result Length NoLength → Type 0
LengthOf n (Ok length) = length.samples ≡ n
LengthOf n (Err none) = is_length n ≡ false
