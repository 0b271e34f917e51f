use Rattle.std.proofs.Common.{◌≡◌, ℕ, ◌≤◌, List, length, get_or, true, [], Fits, w8, Ok, inr, sym, ap, ◌∙◌, arith, map}
use Rattle.std.proofs.lemmas.Result.{err_from_is_err_and}
use Rattle.hex.specs.Hex.{IsBytes}
use Rattle.reapi_dir.specs.declared.message.DirNode.{DirNode}
use Rattle.reapi_dir.specs.declared.message.FileNode.{FileNode}
use Rattle.reapi_dir.specs.Grammar.{IsFileField, ascend, dir_name, file_name}
use Rattle.reapi_dir.specs.Reading.{dirs_read, files_read}
use Rattle.reapi_dir.proofs.Answering.{are_bytes}
use Rattle.reapi_dir.proofs.MessageBack.{begun_bytes, dirs_begun, files_begun, message_fault, message_ok}
use Rattle.reapi_dir.proofs.read.read_message.Goals as goal

-- what the files and the directories keep
files_keep : (files : List FileNode) (end : ℕ) (bytes rest : List ℕ) → ((i : ℕ) → Fits w8 (get_or bytes i 0)) → files_read 9999 [] end bytes ≡ Ok (files, rest)
    → (ascend (map file_name files) ≡ true) × (length files ≤ 9999) × IsBytes rest
files_keep files end bytes rest h read =
    let each = are_bytes bytes h in
    let begun = files_begun 9999 files end bytes rest each read in
    (begun.ascends, begun.few, begun_bytes file_name IsFileField [] 9999 files bytes rest each begun)

dirs_keep : (earlier : List (List ℕ)) (dirs : List DirNode) (room end : ℕ) (bytes rest : List ℕ) → IsBytes bytes → dirs_read earlier room [] end bytes ≡ Ok (dirs, rest)
    → (ascend (map dir_name dirs) ≡ true) × (length dirs ≤ room)
dirs_keep earlier dirs room end bytes rest h read =
    let begun = dirs_begun earlier room dirs end bytes rest h read in
    (begun.ascends, begun.few)

pub overflow_sub-room : goal.overflow_sub-room
overflow_sub-room c =
    let files = files_keep c.in_ok-files.files.items _ c.args.bytes.now c.in_ok-files.rest.now c.type_inv.bytes c.in_ok-files.ensures.ok in
    omega (arith, files.1, c.len-room.ensures)

pub read_dirs-requires-clause-files : goal.read_dirs-requires-clause-files
read_dirs-requires-clause-files c =
    rw c.as_slice.ensures.value (files_keep c.in_ok-files.files.items _ c.args.bytes.now c.in_ok-files.rest.now c.type_inv.bytes c.in_ok-files.ensures.ok).0

pub overflow_sub-room-2 : goal.overflow_sub-room-2
overflow_sub-room-2 c =
    let files = files_keep c.in_ok-files.files.items _ c.args.bytes.now c.in_ok-files.rest.now c.type_inv.bytes c.in_ok-files.ensures.ok in
    let dirs = dirs_keep _ c.in_ok-dirs.dirs.items _ _ c.in_ok-files.rest.now c.in_ok-dirs.rest.now files.2 c.in_ok-dirs.ensures.ok in
    omega (arith, dirs.1, c.len.ensures)

pub read_links-requires-clause-files : goal.read_links-requires-clause-files
read_links-requires-clause-files c =
    rw c.as_slice-2.ensures.value (files_keep c.in_ok-files.files.items _ c.args.bytes.now c.in_ok-files.rest.now c.type_inv.bytes c.in_ok-files.ensures.ok).0

pub read_links-requires-clause-dirs : goal.read_links-requires-clause-dirs
read_links-requires-clause-dirs c =
    let files = files_keep c.in_ok-files.files.items _ c.args.bytes.now c.in_ok-files.rest.now c.type_inv.bytes c.in_ok-files.ensures.ok in
    rw c.as_slice-3.ensures.value (dirs_keep _ c.in_ok-dirs.dirs.items _ _ c.in_ok-files.rest.now c.in_ok-dirs.rest.now files.2 c.in_ok-dirs.ensures.ok).0

pub returns-in_err-read_end-clause-err : goal.returns-in_err-read_end-clause-err
returns-in_err-read_end-clause-err c =
    let count = c.len-room.ensures ∙ sym c.as_slice.ensures.len ∙ ap length c.as_slice.ensures.value in
    let count_dirs = c.len.ensures ∙ sym c.as_slice-3.ensures.len ∙ ap length c.as_slice-3.ensures.value in
    let p = err_from_is_err_and c.from_residual-in_err-read_end.result c.from_residual-in_err-read_end.ensures.1 in
    rw (p.1, p.2)
    (inr (message_fault _ c.args.bytes.now c.in_ok-files.rest.now c.in_ok-dirs.rest.now c.in_ok-links.rest.now c.in_ok-files.files.items c.in_ok-dirs.dirs.items
    c.in_ok-links.links.items _ c.in_ok-files.ensures.ok
    (rw (c.as_slice.ensures.value, count) at c.in_ok-dirs.ensures.ok)
    (rw (c.as_slice-2.ensures.value, c.as_slice-3.ensures.value, count, count_dirs) at c.in_ok-links.ensures.ok) c.in_err-read_end.ensures))

pub returns-clause-ok : goal.returns-clause-ok
returns-clause-ok c =
    let count = c.len-room.ensures ∙ sym c.as_slice.ensures.len ∙ ap length c.as_slice.ensures.value in
    let count_dirs = c.len.ensures ∙ sym c.as_slice-3.ensures.len ∙ ap length c.as_slice-3.ensures.value in
    rw (c.of.ensures, c.of-2.ensures, c.of-3.ensures)
    (message_ok _ c.args.bytes.now c.in_ok-files.rest.now c.in_ok-dirs.rest.now c.in_ok-links.rest.now c.in_ok-files.files.items c.in_ok-dirs.dirs.items
    c.in_ok-links.links.items c.in_ok-files.ensures.ok
    (rw (c.as_slice.ensures.value, count) at c.in_ok-dirs.ensures.ok)
    (rw (c.as_slice-2.ensures.value, c.as_slice-3.ensures.value, count, count_dirs) at c.in_ok-links.ensures.ok) c.in_ok-read_end.ensures)
