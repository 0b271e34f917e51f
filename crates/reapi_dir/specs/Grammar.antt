-- The grammar of a Directory message (Remote Execution API v2, `Directory`): which bytes spell which message, by one production or side rule each.
-- The bytes of each field are those of its message in the wire form of Protocol Buffers.
use Rattle.mat_tree.specs.Trees.{greatest_file}
use Rattle.std.specs.Prelude.{◌≡◌, ◌≤◌, ℕ, ◌+◌, ◌-◌, ◌^◌, ◌&&◌, Bool, true, not, List, [], ◌∷◌, ◌++◌, length, map}
use Rattle.std.specs.List.{AllByRecursion, list_all, list_any}
use Rattle.std.specs.Ordering.{is_lt}
use Rattle.mat_digest.specs.Digests.{IsDigest}
use Rattle.mat_path.specs.Names.{is_name, is_target, name_cmp, same_name}
use Rattle.reapi_dir.specs.declared.message.FileNode.{FileNode}
use Rattle.reapi_dir.specs.declared.message.DirNode.{DirNode}
use Rattle.reapi_dir.specs.declared.message.LinkNode.{LinkNode}
use Rattle.reapi_dir.specs.declared.message.DirMessage.{DirMessage}
use Rattle.reapi_dir.specs.Spelling.{dir_text, file_text, link_text}

-- the greatest size of a directory
abbrev pub greatest_dir : ℕ
greatest_dir = 2 ^ 63 - 1

-- the most children of a directory
abbrev pub most_children : ℕ
most_children = 9999

-- the name of each kind of child
abbrev pub file_name : FileNode → List ℕ
file_name node = node.name

abbrev pub dir_name : DirNode → List ℕ
dir_name node = node.name

abbrev pub link_name : LinkNode → List ℕ
link_name node = node.name

-- the rules of a `FileNode`
pub record IsFile (node : FileNode) : Type 0 where
  pub named : is_name node.name ≡ true
  pub digest : IsDigest node.digest
  pub size : node.digest.size ≤ greatest_file

-- the rules of a `DirectoryNode`
pub record IsDir (node : DirNode) : Type 0 where
  pub named : is_name node.name ≡ true
  pub digest : IsDigest node.digest
  pub size : node.digest.size ≤ greatest_dir

-- the rules of a `SymlinkNode`
pub record IsLink (node : LinkNode) : Type 0 where
  pub named : is_name node.name ≡ true
  pub target : is_target node.target ≡ true

-- the field `files`, `directories` or `symlinks` of one child
pub record IsFileField (bytes : List ℕ) (node : FileNode) : Type 0 where
  pub text : bytes ≡ file_text node
  pub rules : IsFile node

pub record IsDirField (bytes : List ℕ) (node : DirNode) : Type 0 where
  pub text : bytes ≡ dir_text node
  pub rules : IsDir node

pub record IsLinkField (bytes : List ℕ) (node : LinkNode) : Type 0 where
  pub text : bytes ≡ link_text node
  pub rules : IsLink node

-- a list of children: their fields, one behind the other
abbrev pub Fields : {T : Type 0} → (List ℕ → T → Type 0) → List ℕ → List T → Type 0
Fields IsField bytes [] = bytes ≡ []
Fields IsField bytes (node ∷ nodes) = (field behind : List ℕ) × (bytes ≡ field ++ behind) × IsField field node × Fields IsField behind nodes

-- whether a name is less than another one, by bytes
abbrev pub is_before : List ℕ → List ℕ → Bool
is_before a b = is_lt (name_cmp a b)

-- whether each name is less than all that come after it
abbrev pub ascend : List (List ℕ) → Bool
ascend [] = true
ascend (name ∷ names) = list_all (is_before name) names && ascend names

-- whether no name stands in two lists
abbrev pub are_apart : List (List ℕ) → List (List ℕ) → Bool
are_apart names [] = true
are_apart names (name ∷ others) = not (list_any (same_name name) names) && are_apart names others

-- the rules of a whole message: the names of each list ascend, none stands in two lists, and there are few enough
pub record InOrder (files dirs links : List (List ℕ)) : Type 0 where
  pub files_ascend : ascend files ≡ true
  pub dirs_ascend : ascend dirs ≡ true
  pub links_ascend : ascend links ≡ true
  pub dirs_apart : are_apart files dirs ≡ true
  pub links_apart : are_apart (files ++ dirs) links ≡ true
  pub few : length files + length dirs + length links ≤ most_children

-- these bytes spell this message: its files, then its directories, then its links
pub record Spells (bytes : List ℕ) (message : DirMessage) : Type 0 where
  pub files : List ℕ
  pub dirs : List ℕ
  pub links : List ℕ
  pub whole : bytes ≡ files ++ dirs ++ links
  pub are_files : Fields IsFileField files message.files
  pub are_dirs : Fields IsDirField dirs message.dirs
  pub are_links : Fields IsLinkField links message.links
  pub order : InOrder (map file_name message.files) (map dir_name message.dirs) (map link_name message.links)

-- a message that meets the side rules
pub record IsMessage (message : DirMessage) : Type 0 where
  pub files : AllByRecursion IsFile message.files
  pub dirs : AllByRecursion IsDir message.dirs
  pub links : AllByRecursion IsLink message.links
  pub order : InOrder (map file_name message.files) (map dir_name message.dirs) (map link_name message.links)
