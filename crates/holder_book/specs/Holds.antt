-- The holds of a book, as its contracts see them beside the definitions of the model.
use Rattle.std.specs.Prelude.{ℕ, List}
use Rattle.mat_model.specs.declared.book.Hold.{Hold}

-- a hold as a pair
abbrev pub both : Hold → ℕ × List (List ℕ)
both hold = (hold.command, hold.path)
