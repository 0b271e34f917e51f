-- A plan that is carried out.
use Rattle.std.specs.Prelude.{◌≡◌, ℕ, List, [], ◌∷◌}
use Rattle.mat_digest.specs.Digests.{digest_of}
use Rattle.mat_digest.specs.declared.digest.Digest.{Digest}
use Rattle.mat_tree.specs.Parts.{Part, bare, file, folder, link, with_node}
use Rattle.mat_tree.specs.declared.flat.Flat.{Flat}
use Rattle.mat_tree.specs.declared.flat.What.{What}
use Rattle.mat_tree.specs.declared.flat.What.TheVariants as what
use Rattle.write_plan.specs.declared.act.Act.{Act}
use Rattle.write_plan.specs.declared.act.Act.TheVariants as act

-- the bytes that are put for a digest
abbrev pub Bytes : Type 0
Bytes = Digest → List ℕ

-- the bytes that are put for the file at a rel, by its digest: two files of one digest may get other bytes
abbrev pub BytesAt : Type 0
BytesAt = List (List ℕ) → Bytes

-- what an act makes of a part
abbrev pub carry_one_at : BytesAt → Act → Part → Part
carry_one_at bytes act.Wipe part = bare
carry_one_at bytes (act.Dir rel) part = with_node rel folder part
carry_one_at bytes (act.Link rel target) part = with_node rel (link target) part
carry_one_at bytes (act.File rel digest exec from) part = with_node rel (file (bytes rel digest) exec) part
carry_one_at bytes act.Sync part = part

-- what some acts in turn make of a part
abbrev pub carry_at : BytesAt → List Act → Part → Part
carry_at bytes [] part = part
carry_at bytes (one ∷ acts) part = carry_at bytes acts (carry_one_at bytes one part)

-- the bytes for a node's digest have that digest, if it is a file
abbrev pub IsRightFor : Bytes → What → Type 0
IsRightFor bytes (what.File digest exec) = digest_of (bytes digest) ≡ digest
IsRightFor bytes what.Dir = Unit {0}
IsRightFor bytes (what.Link target) = Unit {0}

-- the same of each node, with the bytes that are put at its rel
abbrev pub AreRightAt : BytesAt → List Flat → Type 0
AreRightAt bytes [] = Unit {0}
AreRightAt bytes (node ∷ nodes) = IsRightFor (bytes node.rel) node.what × AreRightAt bytes nodes

-- ---- where all files of one digest get the same bytes

-- the same bytes for a digest at each rel
abbrev pub everywhere : Bytes → BytesAt
everywhere bytes rel = bytes

abbrev pub carry_one : Bytes → Act → Part → Part
carry_one bytes = carry_one_at (everywhere bytes)

abbrev pub carry : Bytes → List Act → Part → Part
carry bytes = carry_at (everywhere bytes)

abbrev pub AreRight : Bytes → List Flat → Type 0
AreRight bytes = AreRightAt (everywhere bytes)
