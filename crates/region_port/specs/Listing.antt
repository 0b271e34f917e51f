-- The nodes of a part as a list: what a region lists, and what a disk in memory shows below a path.
use Rattle.std.specs.Prelude.{◌≡◌, ◌≤◌, ◌<◌, ℕ, Bool, true, false, List, length, map, Option, Some, None}
use Rattle.std.specs.List.{find, list_all}
use Rattle.std.specs.List.Sorted.{IsStrictlySortedBy}
use Rattle.std.specs.Option.{option_map}
use Rattle.mat_path.specs.Names.{path_cmp, same_names}
use Rattle.mat_tree.specs.Parts.{Node, Part, below, file, folder, link}
use Rattle.mat_tree.specs.declared.flat.Flat.{Flat}
use Rattle.mat_tree.specs.declared.flat.What.{What}
use Rattle.region_port.specs.Entries.{Kept, content_of}
use Rattle.region_port.specs.declared.listed.Form.{Form}
use Rattle.region_port.specs.declared.listed.Form.TheVariants as form
use Rattle.region_port.specs.declared.listed.Listed.{Listed}
use Rattle.region_port.specs.declared.listed.Listed.TheVariants as listed
use Rattle.region_port.specs.declared.listed.Seen.{Seen}

-- ---- what a region lists

-- how many nodes a list has at most
abbrev pub most_nodes : ℕ
most_nodes = 10000

-- the form of a node: of a file the number of its bytes stands for them
abbrev pub form_of : Node → Form
form_of folder = form.Dir
form_of (file bytes exec) = form.File exec (length bytes)
form_of (link target) = form.Link target

-- the rel of a listed node, and its form
abbrev pub rel_seen : Seen → List (List ℕ)
rel_seen node = node.rel

abbrev pub form_seen : Seen → Form
form_seen node = node.what

-- whether a listed node is at a rel
abbrev pub is_seen_at : List (List ℕ) → Seen → Bool
is_seen_at rel node = same_names node.rel rel

-- the form that a list has at a rel
abbrev pub form_at : List Seen → List (List ℕ) → Option Form
form_at nodes rel = option_map form_seen (find (is_seen_at rel) nodes)

-- nodes that stand in strict order of rel, so each once
abbrev pub IsInOrder : List Seen → Type 0
IsInOrder nodes = IsStrictlySortedBy path_cmp (map rel_seen nodes)

-- whether a listed node is no strange one
abbrev pub is_plain_form : Form → Bool
is_plain_form (form.File exec size) = true
is_plain_form form.Dir = true
is_plain_form (form.Link target) = true
is_plain_form form.Strange = false

abbrev pub is_plain : Seen → Bool
is_plain node = is_plain_form node.what

-- a list has just the nodes of a part
abbrev pub HasNodes : Part → List Seen → Type 0
HasNodes part nodes = (rel : List (List ℕ)) → option_map form_of (part rel) ≡ form_at nodes rel

-- just the nodes of a part, and so none that is strange, where that is told
abbrev pub HasTold : Option Part → List Seen → Type 0
HasTold None nodes = Unit {0}
HasTold (Some part) nodes = HasNodes part nodes × (list_all is_plain nodes ≡ true)

-- a part has too many nodes for a list, where that is told
abbrev pub HasMany : Option Part → Type 0
HasMany None = Unit {0}
HasMany (Some part) = (nodes : List Seen) × IsInOrder nodes × HasNodes part nodes × (most_nodes < length nodes)

-- what listing a part answers
abbrev pub Lists : Option Part → Listed → Type 0
Lists part (listed.Nodes nodes) = IsInOrder nodes × (length nodes ≤ most_nodes) × HasTold part nodes
Lists part listed.Many = HasMany part
Lists part listed.Failed = Unit {0}
Lists part listed.NoMemory = Unit {0}

-- whether listing failed
abbrev pub list_failed : Listed → Bool
list_failed (listed.Nodes nodes) = false
list_failed listed.Many = false
list_failed listed.Failed = true
list_failed listed.NoMemory = false

-- ---- what a disk in memory shows

-- the node of a rel and what stands there
abbrev pub flat_from : List (List ℕ) × What → Flat
flat_from pair = record { rel = pair.0; what = pair.1 }

-- the nodes of such pairs
abbrev pub flats_of : List (List (List ℕ) × What) → List Flat
flats_of pairs = map flat_from pairs

-- the same of forms
abbrev pub seen_from : List (List ℕ) × Form → Seen
seen_from pair = record { rel = pair.0; what = pair.1 }

abbrev pub seen_of : List (List (List ℕ) × Form) → List Seen
seen_of pairs = map seen_from pairs

-- what some entries have at a rel below a path, as it is shown
abbrev pub shown : {V : Type 0} → (Node → V) → List (List ℕ) → List Kept → List (List ℕ) → Option V
shown show path entries rel = option_map show (below path (content_of entries) rel)
