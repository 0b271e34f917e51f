-- What reading a Directory message answers: the message, or the first fault from the left (Remote Execution API v2, `Directory`, `FileNode`,
-- `DirectoryNode`, `SymlinkNode`, `Digest`). Each definition reads the fields of one production, in order.
use Rattle.mat_tree.specs.Trees.{greatest_file}
use Rattle.std.specs.Prelude.{ℕ, zero, suc, ◌-◌, ◌&&◌, nat_le, nat_eq, Bool, true, false, not, if◌then◌else◌, List, [], ◌∷◌, ◌++◌, length, map, slice_get, Option, Some, None, Result, Ok, Err}
use Rattle.std.specs.List.{list_any}
use Rattle.std.specs.Option.{option_map}
use Rattle.std.specs.Borrow.{Bor}
use Rattle.mat_digest.specs.Digests.{read_hash}
use Rattle.mat_digest.specs.declared.digest.Digest.{Digest}
use Rattle.mat_path.specs.Names.{is_name, is_target, same_name}
use Rattle.reapi_dir.specs.declared.message.FileNode.{FileNode}
use Rattle.reapi_dir.specs.declared.message.DirNode.{DirNode}
use Rattle.reapi_dir.specs.declared.message.LinkNode.{LinkNode}
use Rattle.reapi_dir.specs.declared.message.DirMessage.{DirMessage}
use Rattle.reapi_dir.specs.declared.refusal.DirRefusal.{DirRefusal}
use Rattle.reapi_dir.specs.declared.refusal.DirRefusal.TheVariants as refusal
use Rattle.reapi_dir.specs.Grammar.{dir_name, file_name, greatest_dir, is_before, link_name, most_children}
use Rattle.reapi_dir.specs.Wire.{Read, ◌>>=◌, begins_with, bytes_key, field_read, key_read, last_read, number_key, place, varint_read}

-- the offset at which the bytes of a field begin, which end where those behind it begin
abbrev pub start : ℕ → List ℕ × List ℕ → ℕ
start end field = place (place end field.1) field.0

-- ---- names

-- whether a name is greater than the last one before it in its list
abbrev pub follows : Option (List ℕ) → List ℕ → Bool
follows None name = true
follows (Some last) name = is_before last name

-- whether a name may come after these: the last one in its list, and those of the earlier lists
abbrev pub is_new : Option (List ℕ) → List (List ℕ) → List ℕ → Bool
is_new last earlier name = follows last name && not (list_any (same_name name) earlier)

-- the field `name` (1)
unfoldable pub name_field_read : ℕ → List ℕ → Read (List ℕ)
name_field_read end bytes = do
  field ← field_read (bytes_key 1) end bytes
  if is_name field.0 then Ok field else Err (refusal.Name (start end field))

-- the field `name` of the next child
unfoldable pub name_read : Option (List ℕ) → List (List ℕ) → ℕ → List ℕ → Read (List ℕ)
name_read last earlier end bytes = do
  field ← name_field_read end bytes
  if is_new last earlier field.0 then Ok field else Err (refusal.Order (start end field))

-- the field `target` (2)
unfoldable pub target_read : ℕ → List ℕ → Read (List ℕ)
target_read end bytes = do
  field ← field_read (bytes_key 2) end bytes
  if is_target field.0 then Ok field else Err (refusal.Name (start end field))

-- ---- digests

-- a hash that was read at an offset
abbrev pub hash_at : ℕ → Option (List ℕ) → Result (List ℕ) DirRefusal
hash_at at None = Err (refusal.Hash at)
hash_at at (Some hash) = Ok hash

-- a size that was read at an offset
abbrev pub size_at : ℕ → ℕ → ℕ → Result ℕ DirRefusal
size_at at limit size = if nat_le 1 size && nat_le size limit then Ok size else Err (refusal.Size at)

-- the field `size_bytes` (2), the last one of a digest
unfoldable pub size_field_read : ℕ → ℕ → List ℕ → Result ℕ DirRefusal
size_field_read limit end bytes = do
  behind ← key_read (number_key 2) end bytes
  size ← varint_read end behind
  fitting ← size_at (place end behind) limit size.0
  last_read fitting end size.1

-- a size, which is 0 where its field doesn't stand
abbrev pub size_read : ℕ → ℕ → List ℕ → Result ℕ DirRefusal
size_read limit end [] = Ok 0
size_read limit end (b ∷ more) = size_field_read limit end (b ∷ more)

-- a digest: `hash` (1) and `size_bytes` (2)
unfoldable pub digest_read : ℕ → ℕ → List ℕ → Result Digest DirRefusal
digest_read limit end bytes = do
  field ← field_read (bytes_key 1) end bytes
  hash ← hash_at (start end field) (read_hash field.0)
  size ← size_read limit end field.1
  Ok (record { hash = hash; size = size })

-- the field `digest` (2) of a node
unfoldable pub digest_field_read : ℕ → ℕ → List ℕ → Read Digest
digest_field_read limit end bytes = do
  field ← field_read (bytes_key 2) end bytes
  digest ← digest_read limit (place end field.1) field.0
  Ok (digest, field.1)

-- ---- nodes

-- a flag that was read at an offset: a flag that isn't set isn't written
abbrev pub flag_at : ℕ → ℕ → Result Bool DirRefusal
flag_at at number = if nat_eq number 1 then Ok true else Err (refusal.Varint at)

-- the field `is_executable` (4), the last one of a file
unfoldable pub exec_field_read : ℕ → List ℕ → Result Bool DirRefusal
exec_field_read end bytes = do
  behind ← key_read (number_key 4) end bytes
  number ← varint_read end behind
  flag ← flag_at (place end behind) number.0
  last_read flag end number.1

-- whether a file is executable, which it isn't where the field doesn't stand
abbrev pub exec_read : ℕ → List ℕ → Result Bool DirRefusal
exec_read end [] = Ok false
exec_read end (b ∷ more) = exec_field_read end (b ∷ more)

-- a file, behind the last one before it
unfoldable pub file_read : Option (List ℕ) → ℕ → List ℕ → Result FileNode DirRefusal
file_read last end bytes = do
  name ← name_read last [] end bytes
  digest ← digest_field_read greatest_file end name.1
  exec ← exec_read end digest.1
  Ok (record { name = name.0; digest = digest.0; exec = exec })

-- a directory, behind the last one before it and the earlier list
unfoldable pub dir_read : Option (List ℕ) → List (List ℕ) → ℕ → List ℕ → Result DirNode DirRefusal
dir_read last earlier end bytes = do
  name ← name_read last earlier end bytes
  digest ← digest_field_read greatest_dir end name.1
  last_read (record { name = name.0; digest = digest.0 }) end digest.1

-- a link, behind the last one before it and the earlier lists
unfoldable pub link_read : Option (List ℕ) → List (List ℕ) → ℕ → List ℕ → Result LinkNode DirRefusal
link_read last earlier end bytes = do
  name ← name_read last earlier end bytes
  target ← target_read end name.1
  last_read (record { name = name.0; target = target.0 }) end target.1

-- ---- lists of nodes

-- the name of the last node, if there is a node
abbrev pub newest : {T : Type 0} → (T → List ℕ) → List T → Option (List ℕ)
newest name nodes = option_map name (slice_get nodes (length nodes - 1))

-- the fields `files` (1), `directories` (2) and `symlinks` (3): the next node, behind those of its list that were read before
unfoldable pub next_file_read : List FileNode → ℕ → List ℕ → Read FileNode
next_file_read files end bytes = do
  field ← field_read (bytes_key 1) end bytes
  node ← file_read (newest file_name files) (place end field.1) field.0
  Ok (node, field.1)

unfoldable pub next_dir_read : List (List ℕ) → List DirNode → ℕ → List ℕ → Read DirNode
next_dir_read earlier dirs end bytes = do
  field ← field_read (bytes_key 2) end bytes
  node ← dir_read (newest dir_name dirs) earlier (place end field.1) field.0
  Ok (node, field.1)

unfoldable pub next_link_read : List (List ℕ) → List LinkNode → ℕ → List ℕ → Read LinkNode
next_link_read earlier links end bytes = do
  field ← field_read (bytes_key 3) end bytes
  node ← link_read (newest link_name links) earlier (place end field.1) field.0
  Ok (node, field.1)

-- the nodes of a list, as long as its key comes: those that were read before and all that come, of which there may be `room`
unfoldable pub nodes_read : {T : Type 0} → ℕ → (List T → ℕ → List ℕ → Read T) → ℕ → List T → ℕ → List ℕ → Read (List T)
nodes_read key next zero nodes end bytes = if begins_with key bytes then Err (refusal.Many (place end bytes)) else Ok (nodes, bytes)
nodes_read key next (suc room) nodes end bytes =
    if begins_with key bytes then (do
      node ← next nodes end bytes
      nodes_read key next room (nodes ++ node.0 ∷ []) end node.1)
    else Ok (nodes, bytes)

-- the three lists; `room` is how many children may still come
abbrev pub files_read : ℕ → List FileNode → ℕ → List ℕ → Read (List FileNode)
files_read room files end bytes = nodes_read (bytes_key 1) next_file_read room files end bytes

abbrev pub dirs_read : List (List ℕ) → ℕ → List DirNode → ℕ → List ℕ → Read (List DirNode)
dirs_read earlier room dirs end bytes = nodes_read (bytes_key 2) (next_dir_read earlier) room dirs end bytes

abbrev pub links_read : List (List ℕ) → ℕ → List LinkNode → ℕ → List ℕ → Read (List LinkNode)
links_read earlier room links end bytes = nodes_read (bytes_key 3) (next_link_read earlier) room links end bytes

-- ---- messages

-- the end of a message: a key that still comes may not stand there
unfoldable pub bad_key_read : {A : Type 0} → ℕ → List ℕ → Result A DirRefusal
bad_key_read end bytes = do
  key ← varint_read end bytes
  Err (refusal.Key (place end bytes))

abbrev pub end_read : {A : Type 0} → A → ℕ → List ℕ → Result A DirRefusal
end_read value end [] = Ok value
end_read value end (b ∷ more) = bad_key_read end (b ∷ more)

-- a message of the bytes before `end`
unfoldable pub message_read : ℕ → List ℕ → Result DirMessage DirRefusal
message_read end bytes = do
  files ← files_read most_children [] end bytes
  dirs ← dirs_read (map file_name files.0) (most_children - length files.0) [] end files.1
  links ← links_read (map file_name files.0 ++ map dir_name dirs.0) (most_children - length files.0 - length dirs.0) [] end dirs.1
  end_read (record { files = files.0; dirs = dirs.0; links = links.0 }) end links.1

-- the refusal of an answer, if it is one
abbrev pub refusal_in : {A : Type 0} → Result A DirRefusal → Option DirRefusal
refusal_in (Ok x) = None
refusal_in (Err e) = Some e

-- the first fault of bytes from the left, if they aren't a message
abbrev pub dir_refusal : List ℕ → Option DirRefusal
dir_refusal bytes = refusal_in (message_read (length bytes) bytes)

-- ---- answers of the code

-- a file by its name, its digest and its flag
abbrev pub file_view : Result (Bor (List ℕ) × Digest × Bool) DirRefusal → Result FileNode DirRefusal
file_view (Ok p) = Ok (record { name = p.0.now; digest = p.1; exec = p.2 })
file_view (Err e) = Err e

-- a directory by its name and its digest
abbrev pub dir_view : Result (Bor (List ℕ) × Digest) DirRefusal → Result DirNode DirRefusal
dir_view (Ok p) = Ok (record { name = p.0.now; digest = p.1 })
dir_view (Err e) = Err e

-- a link by its name and its target
abbrev pub link_view : Result (Bor (List ℕ) × Bor (List ℕ)) DirRefusal → Result LinkNode DirRefusal
link_view (Ok p) = Ok (record { name = p.0.now; target = p.1.now })
link_view (Err e) = Err e
