-- What a look at a part of a disk tells: whether the part has a tree.
use Rattle.std.specs.Prelude.{◌≡◌, ◌⊎◌, ◌==◌, ◌&&◌, ℕ, Bool, true, false, List, length, take, Option, Some, None}
use Rattle.std.specs.Option.{ForSome, option_map}
use Rattle.std.specs.Cmp.Lexicographic.{pointwise}
use Rattle.mat_path.specs.Names.{is_prefix, same_name, same_names}
use Rattle.mat_digest.specs.Digests.{digest_of}
use Rattle.mat_digest.specs.Fed.{HasTaken}
use Rattle.mat_digest.specs.declared.check.Check.{Check}
use Rattle.mat_digest.specs.declared.digest.Digest.{Digest}
use Rattle.mat_tree.specs.Parts.{HasTree, Node, Part, below}
use Rattle.mat_tree.specs.Trees.{same_bool, same_digest}
use Rattle.mat_tree.specs.declared.flat.Flat.{Flat}
use Rattle.mat_tree.specs.declared.flat.What.{What}
use Rattle.mat_tree.specs.declared.flat.What.TheVariants as what
use Rattle.region_port.specs.Calls.{Paths, nowhere}
use Rattle.region_port.specs.Listing.{HasMany, HasTold, IsInOrder}
use Rattle.region_port.specs.Reads.{file_bytes, piece}
use Rattle.region_port.specs.declared.listed.Form.{Form}
use Rattle.region_port.specs.declared.listed.Form.TheVariants as form
use Rattle.region_port.specs.declared.listed.Seen.{Seen}

-- ---- what holds after a look

-- a part has a tree or hasn't, where it is told
abbrev pub TellsTree : Option Part → List Flat → Bool → Type 0
TellsTree None nodes has = Unit {0}
TellsTree (Some part) nodes true = HasTree part nodes
TellsTree (Some part) nodes false = HasTree part nodes → ⊥

-- the same of what a disk has at and below a path
abbrev pub TellsTreeAt : List (List ℕ) → List Flat → Option Part → Bool → Type 0
TellsTreeAt place nodes None has = Unit {0}
TellsTreeAt place nodes (Some content) has = TellsTree (Some (below place content)) nodes has

-- a disk has what it had, place by place, where that is told
abbrev pub HasStill : Option Part → Option Part → Type 0
HasStill None now = now ≡ None
HasStill (Some content) None = ⊥
HasStill (Some content) (Some told) = (path : List (List ℕ)) → told path ≡ content path

-- a path is as rough as it was, or not rough any more
abbrev pub IsNoRougher : Paths → Paths → Type 0
IsNoRougher before now = (path : List (List ℕ)) → (now path ≡ before path) ⊎ (now path ≡ false)

-- a sync that is done ends all roughness of a part, and a look that ended before that none
abbrev pub Settles : Bool → Paths → Paths → Type 0
Settles true before now = now ≡ nowhere
Settles false before now = (now ≡ before) ⊎ (now ≡ nowhere)

-- no path at or below a place is rough
abbrev pub IsSettledAt : List (List ℕ) → Paths → Type 0
IsSettledAt place rough = (path : List (List ℕ)) → is_prefix place path ≡ true → rough path ≡ false

-- ---- how it finds out

-- whether a listed form is what a node of a tree is; of a file only its size is listed
abbrev pub is_alike_form : What → Form → Bool
is_alike_form (what.File digest exec) (form.File flag size) = same_bool exec flag && (digest.size == size)
is_alike_form (what.File digest exec) form.Dir = false
is_alike_form (what.File digest exec) (form.Link target) = false
is_alike_form (what.File digest exec) form.Strange = false
is_alike_form what.Dir (form.File flag size) = false
is_alike_form what.Dir form.Dir = true
is_alike_form what.Dir (form.Link target) = false
is_alike_form what.Dir form.Strange = false
is_alike_form (what.Link target) (form.File flag size) = false
is_alike_form (what.Link target) form.Dir = false
is_alike_form (what.Link target) (form.Link other) = same_name target other
is_alike_form (what.Link target) form.Strange = false

-- the same of nodes with their rels
abbrev pub is_alike : Flat → Seen → Bool
is_alike node seen = same_names node.rel seen.rel && is_alike_form node.what seen.what

-- whether listed nodes are alike those of a tree, one by one
abbrev pub are_alike : List Flat → List Seen → Bool
are_alike nodes seen = pointwise is_alike nodes seen

-- whether there are the bytes of a digest
abbrev pub is_file_of : Digest → Option (List ℕ) → Bool
is_file_of digest None = false
is_file_of digest (Some bytes) = same_digest (digest_of bytes) digest

-- whether a file of a tree has its bytes, where this stands at its rel
abbrev pub is_right_for : Option Node → What → Bool
is_right_for there (what.File digest exec) = is_file_of digest (file_bytes there)
is_right_for there what.Dir = true
is_right_for there (what.Link target) = true

abbrev pub is_right : Part → Flat → Bool
is_right part node = is_right_for (part node.rel) node.what

-- the nodes of a part as they were listed, or that they are too many for a list
abbrev pub Shows : Option Part → Option (List Seen) → Type 0
Shows part None = HasMany part
Shows part (Some nodes) = IsInOrder nodes × HasTold part nodes

-- a piece of the file at a rel, or that no file is there
abbrev pub GivesPiece : List (List ℕ) → ℕ → ℕ → Option Part → Option (List ℕ) → Type 0
GivesPiece rel at most None given = Unit {0}
GivesPiece rel at most (Some part) None = file_bytes (part rel) ≡ None
GivesPiece rel at most (Some part) (Some given) = option_map (piece at most) (file_bytes (part rel)) ≡ Some given

-- some bytes are the first ones of a file
abbrev pub IsFront : List ℕ → Option (List ℕ) → Type 0
IsFront fed file = ForSome file (λ bytes. fed ≡ take (length fed) bytes)

-- a file is read up to an offset: the check has taken all bytes before it
pub record IsReadTo (part : Option Part) (rel : List (List ℕ)) (check : Check) (at : ℕ) : Type 0 where
  pub fed : List ℕ
  pub taken : HasTaken check fed
  pub long : length fed ≡ at
  pub front : ForSome part (λ (told : Part). IsFront fed (file_bytes (told rel)))
