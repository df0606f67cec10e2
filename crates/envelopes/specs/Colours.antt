-- What is printed of a colour. Assumes nothing.
use Rattle.std.specs.Prelude.{ℕ, List, codes}
use Rattle.envelopes.specs.declared.colour.Colour.{Colour}
use Rattle.envelopes.specs.declared.colour.Colour.TheVariants.{Green, Yellow, Red}

abbrev pub colour_name : Colour → List ℕ
colour_name Green = codes "Green"
colour_name Yellow = codes "Yellow"
colour_name Red = codes "Red"
