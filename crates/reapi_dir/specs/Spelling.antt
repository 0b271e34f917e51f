-- The one text of a Directory message (Remote Execution API v2, `Directory`): its files, then its directories, then its links, each list in its order.
use Rattle.std.specs.Prelude.{ℕ, List, ◌++◌}
use Rattle.std.specs.List.{flat_map}
use Rattle.mat_tree.specs.Messages.{dir_field, file_field, link_field}
use Rattle.reapi_dir.specs.declared.message.FileNode.{FileNode}
use Rattle.reapi_dir.specs.declared.message.DirNode.{DirNode}
use Rattle.reapi_dir.specs.declared.message.LinkNode.{LinkNode}
use Rattle.reapi_dir.specs.declared.message.DirMessage.{DirMessage}

-- the field of each kind of child
abbrev pub file_text : FileNode → List ℕ
file_text node = file_field node.name node.digest node.exec

abbrev pub dir_text : DirNode → List ℕ
dir_text node = dir_field node.name node.digest

abbrev pub link_text : LinkNode → List ℕ
link_text node = link_field node.name node.target

-- the bytes of a message
abbrev pub spelled : DirMessage → List ℕ
spelled message = flat_map file_text message.files ++ flat_map dir_text message.dirs ++ flat_map link_text message.links
