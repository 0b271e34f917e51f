-- A part that is given a tree node by node, and a file of it piece by piece.
use Rattle.std.specs.Prelude.{◌≡◌, ◌==◌, ℕ, Bool, false, if◌then◌else◌, List, length, Option, Some}
use Rattle.std.specs.Option.{ForSome, option_map}
use Rattle.mat_path.specs.Names.{same_names}
use Rattle.mat_tree.specs.Parts.{HasTree, Part, declared_by, file, with_node}
use Rattle.mat_tree.specs.Trees.{what_at}
use Rattle.mat_digest.specs.declared.digest.Digest.{Digest}
use Rattle.mat_tree.specs.declared.flat.Flat.{Flat}
use Rattle.mat_tree.specs.declared.flat.What.TheVariants as what
use Rattle.region_port.specs.Calls.{appended}

-- a part has these nodes, where it is told
abbrev pub HasNodes : List Flat → Option Part → Type 0
HasNodes nodes part = ForSome part (λ (told : Part). HasTree told nodes)

-- a part has these nodes but for what it has at a rel
abbrev pub HasElsewhere : List (List ℕ) → List Flat → Part → Type 0
HasElsewhere rel nodes part =
    (place : List (List ℕ)) → same_names place rel ≡ false → option_map declared_by (part place) ≡ what_at nodes place

-- a part has a file of these bytes at a rel
abbrev pub HasFile : List (List ℕ) → Bool → List ℕ → Part → Type 0
HasFile rel exec bytes part = part rel ≡ Some (file bytes exec)

-- a part has these nodes, and at another rel a file of the bytes that were put so far, if some were; this is known where the part is told
pub record Grows (rel : List (List ℕ)) (exec : Bool) (nodes : List Flat) (put : List ℕ) (part : Option Part) : Type 0 where
  pub elsewhere : ForSome part (HasElsewhere rel nodes)
  pub file : (length put == 0) ≡ false → ForSome part (HasFile rel exec put)

-- a part that is given a piece of a file: the first one puts the file, each further one is added at its end
abbrev pub with_piece : List (List ℕ) → Bool → ℕ → List ℕ → Part → Part
with_piece rel exec at piece part = if at == 0 then with_node rel (file piece exec) part else appended rel piece part

-- a directory, a link and a file as nodes of a tree
abbrev pub dir_node : List (List ℕ) → Flat
dir_node rel = record { rel = rel; what = what.Dir }

abbrev pub link_node : List (List ℕ) → List ℕ → Flat
link_node rel target = record { rel = rel; what = what.Link target }

abbrev pub file_node : List (List ℕ) → Digest → Bool → Flat
file_node rel digest exec = record { rel = rel; what = what.File digest exec }
