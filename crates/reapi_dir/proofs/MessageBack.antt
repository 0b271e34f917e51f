-- What spells a message is read as it, and what is read as a message spells it.
use Rattle.std.proofs.Common.{◌≡◌, ℕ, ◌-◌, ◌^◌, ◌<◌, ◌≤◌, nat_eq, true, false, List, [], ◌∷◌, ◌++◌, length, map, None, Result, Ok, Err, refl, sym, ap, ◌∙◌, subst, arith, length-append, append-nil, append_assoc}
use Rattle.std.specs.List.{flat_map, AllByRecursion}
use Rattle.std.proofs.lemmas.List.{length-map}
use Rattle.hex.specs.Hex.{IsBytes}
use Rattle.mat_tree.specs.Messages.{dir_message, file_message, link_message, varint}
use Rattle.reapi_dir.specs.declared.message.FileNode.{FileNode}
use Rattle.reapi_dir.specs.declared.message.DirNode.{DirNode}
use Rattle.reapi_dir.specs.declared.message.LinkNode.{LinkNode}
use Rattle.reapi_dir.specs.declared.message.DirMessage.{DirMessage}
use Rattle.reapi_dir.specs.declared.refusal.DirRefusal.{DirRefusal}
use Rattle.reapi_dir.specs.declared.refusal.DirRefusal.TheVariants as refusal
use Rattle.reapi_dir.specs.Spelling.{dir_text, file_text, link_text, spelled}
use Rattle.reapi_dir.specs.Grammar.{Fields, IsDir, IsDirField, IsFile, IsFileField, IsLink, IsLinkField, IsMessage, Spells, are_apart, ascend, dir_name, file_name, link_name, most_children}
use Rattle.reapi_dir.specs.Reading.{bad_key_read, dirs_read, end_read, files_read, is_new, links_read, message_read, newest, next_dir_read, next_file_read, next_link_read}
use Rattle.reapi_dir.specs.Wire.{◌>>=◌, begins_with, place, varint_read}
use Rattle.reapi_dir.proofs.ListBack.{BeginsField, Listed, NextBack, NextSpells, begins_other, nodes_back, nodes_spell}
use Rattle.reapi_dir.proofs.NodeBack.{dir_back, dir_spells, file_back, file_spells, inner_len, link_back, link_spells}
use Rattle.reapi_dir.proofs.Order.{ascend_new, new_ascend}
use Rattle.reapi_dir.proofs.WireBack.{both_gave, bytes_back, field_back, field_spells, keyed, keyed_bytes, same_first, same_second, same_value}

-- ---- the next node of each list

file_spelled : (nodes : List FileNode) (bytes message behind rest : List ℕ) (x node : FileNode) → bytes ≡ keyed 10 message ++ behind
    → message ≡ file_message x.name x.digest x.exec → IsFile x → is_new (newest file_name nodes) [] x.name ≡ true → x ≡ node → behind ≡ rest
    → (field : List ℕ) × (bytes ≡ field ++ rest) × IsFileField field node × (is_new (newest file_name nodes) [] node.name ≡ true)
file_spelled nodes bytes message behind rest x node a b rules new same end = (
  keyed 10 message,
  a ∙ ap (λ (xs : List ℕ). keyed 10 message ++ xs) end,
  subst (λ (y : FileNode). IsFileField (keyed 10 message) y) same (record { text = ap (keyed 10) b; rules = rules }),
  subst (λ (y : FileNode). is_new (newest file_name nodes) [] y.name ≡ true) same new,
)

file_next_spells : NextSpells file_name IsFileField [] 10 next_file_read
unfolding next_file_read
file_next_spells nodes end bytes node rest h read =
    let first = both_gave {A = List ℕ × List ℕ} _ _ _ read in
    let second = both_gave {A = FileNode} _ _ _ first.2 in
    let field = field_spells bytes 10 end first.0.0 first.0.1 h first.1 in
    let inner = file_spells first.0.0 second.0 (newest file_name nodes) (place end first.0.1) (keyed_bytes 10 first.0.0 first.0.1 (subst IsBytes field h)) second.1 in
    file_spelled nodes bytes first.0.0 first.0.1 rest second.0 node field inner.0 inner.1 inner.2 (same_first second.0 node first.0.1 rest second.2)
    (same_second second.0 node first.0.1 rest second.2)

file_next_back : NextBack file_name IsFileField [] 10 next_file_read
unfolding next_file_read
file_next_back nodes end field node rest is new short =
    let message = file_message node.name node.digest node.exec in
    let inside = inner_len (varint 10) (varint (length message)) message in
    let len = ap length is.text in
    rw (
      is.text,
      field_back 10 end message rest (omega arith) (omega arith),
      file_back node (newest file_name nodes) (place end rest) is.rules new (omega arith),
    ) refl

file_begins : BeginsField file_name IsFileField [] 10 next_file_read
file_begins field node is =
    let message = file_message node.name node.digest node.exec in
    (varint (length message) ++ message, is.text)

module _ (earlier : List (List ℕ)) where
  dir_spelled : (nodes : List DirNode) (bytes message behind rest : List ℕ) (x node : DirNode) → bytes ≡ keyed 18 message ++ behind
      → message ≡ dir_message x.name x.digest → IsDir x → is_new (newest dir_name nodes) earlier x.name ≡ true → x ≡ node → behind ≡ rest
      → (field : List ℕ) × (bytes ≡ field ++ rest) × IsDirField field node × (is_new (newest dir_name nodes) earlier node.name ≡ true)
  dir_spelled nodes bytes message behind rest x node a b rules new same end = (
    keyed 18 message,
    a ∙ ap (λ (xs : List ℕ). keyed 18 message ++ xs) end,
    subst (λ (y : DirNode). IsDirField (keyed 18 message) y) same (record { text = ap (keyed 18) b; rules = rules }),
    subst (λ (y : DirNode). is_new (newest dir_name nodes) earlier y.name ≡ true) same new,
  )

  dir_next_spells : NextSpells dir_name IsDirField earlier 18 (next_dir_read earlier)
  unfolding next_dir_read
  dir_next_spells nodes end bytes node rest h read =
      let first = both_gave {A = List ℕ × List ℕ} _ _ _ read in
      let second = both_gave {A = DirNode} _ _ _ first.2 in
      let field = field_spells bytes 18 end first.0.0 first.0.1 h first.1 in
      let inner = dir_spells first.0.0 second.0 (newest dir_name nodes) earlier (place end first.0.1) (keyed_bytes 18 first.0.0 first.0.1 (subst IsBytes field h)) second.1 in
      dir_spelled nodes bytes first.0.0 first.0.1 rest second.0 node field inner.0 inner.1 inner.2 (same_first second.0 node first.0.1 rest second.2)
      (same_second second.0 node first.0.1 rest second.2)

  dir_next_back : NextBack dir_name IsDirField earlier 18 (next_dir_read earlier)
  unfolding next_dir_read
  dir_next_back nodes end field node rest is new short =
      let message = dir_message node.name node.digest in
      let inside = inner_len (varint 18) (varint (length message)) message in
      let len = ap length is.text in
      rw (
        is.text,
        field_back 18 end message rest (omega arith) (omega arith),
        dir_back node (newest dir_name nodes) earlier (place end rest) is.rules new (omega arith),
      ) refl

  dir_begins : BeginsField dir_name IsDirField earlier 18 (next_dir_read earlier)
  dir_begins field node is =
      let message = dir_message node.name node.digest in
      (varint (length message) ++ message, is.text)

  link_spelled : (nodes : List LinkNode) (bytes message behind rest : List ℕ) (x node : LinkNode) → bytes ≡ keyed 26 message ++ behind
      → message ≡ link_message x.name x.target → IsLink x → is_new (newest link_name nodes) earlier x.name ≡ true → x ≡ node → behind ≡ rest
      → (field : List ℕ) × (bytes ≡ field ++ rest) × IsLinkField field node × (is_new (newest link_name nodes) earlier node.name ≡ true)
  link_spelled nodes bytes message behind rest x node a b rules new same end = (
    keyed 26 message,
    a ∙ ap (λ (xs : List ℕ). keyed 26 message ++ xs) end,
    subst (λ (y : LinkNode). IsLinkField (keyed 26 message) y) same (record { text = ap (keyed 26) b; rules = rules }),
    subst (λ (y : LinkNode). is_new (newest link_name nodes) earlier y.name ≡ true) same new,
  )

  link_next_spells : NextSpells link_name IsLinkField earlier 26 (next_link_read earlier)
  unfolding next_link_read
  link_next_spells nodes end bytes node rest h read =
      let first = both_gave {A = List ℕ × List ℕ} _ _ _ read in
      let second = both_gave {A = LinkNode} _ _ _ first.2 in
      let field = field_spells bytes 26 end first.0.0 first.0.1 h first.1 in
      let inner = link_spells first.0.0 second.0 (newest link_name nodes) earlier (place end first.0.1) (keyed_bytes 26 first.0.0 first.0.1 (subst IsBytes field h)) second.1 in
      link_spelled nodes bytes first.0.0 first.0.1 rest second.0 node field inner.0 inner.1 inner.2 (same_first second.0 node first.0.1 rest second.2)
      (same_second second.0 node first.0.1 rest second.2)

  link_next_back : NextBack link_name IsLinkField earlier 26 (next_link_read earlier)
  unfolding next_link_read
  link_next_back nodes end field node rest is new short =
      let message = link_message node.name node.target in
      let inside = inner_len (varint 26) (varint (length message)) message in
      let len = ap length is.text in
      rw (
        is.text,
        field_back 26 end message rest (omega arith) (omega arith),
        link_back node (newest link_name nodes) earlier (place end rest) is.rules new,
      ) refl

  link_begins : BeginsField link_name IsLinkField earlier 26 (next_link_read earlier)
  link_begins field node is =
      let message = link_message node.name node.target in
      (varint (length message) ++ message, is.text)

-- ---- the lists of a message

-- a list that was read from its beginning
pub record Begun {T : Type 0} (name : T → List ℕ) (IsField : List ℕ → T → Type 0) (earlier : List (List ℕ)) (room : ℕ) (all : List T) (bytes rest : List ℕ) : Type 0 where
  pub front : List ℕ
  pub whole : bytes ≡ front ++ rest
  pub fields : Fields IsField front all
  pub ascends : ascend (map name all) ≡ true
  pub apart : are_apart earlier (map name all) ≡ true
  pub few : length all ≤ room

begun : {T : Type 0} (name : T → List ℕ) (IsField : List ℕ → T → Type 0) (earlier : List (List ℕ)) (room : ℕ) (all : List T) (bytes rest : List ℕ)
    → Listed name IsField earlier room [] all bytes rest → Begun name IsField earlier room all bytes rest
begun {T} name IsField earlier room all bytes rest l =
    let same : l.more ≡ all = sym l.all_is in
    let order = new_ascend earlier None (map name l.more) l.new in
    subst (λ (xs : List T). Begun name IsField earlier room xs bytes rest) same
    (record { front = l.front; whole = l.whole; fields = l.fields; ascends = order.1; apart = order.2; few = l.few })

-- files that were read from the beginning of their list are its fields, in order and few enough
pub files_begun : (room : ℕ) (files : List FileNode) (end : ℕ) (bytes rest : List ℕ) → IsBytes bytes → files_read room [] end bytes ≡ Ok (files, rest)
    → Begun file_name IsFileField [] room files bytes rest
files_begun room files end bytes rest h read =
    begun file_name IsFileField [] room files bytes rest (nodes_spell file_name IsFileField [] 10 next_file_read file_next_spells room [] files end bytes rest h read)

-- the same of directories, whose names are none of the earlier ones
pub dirs_begun : (earlier : List (List ℕ)) (room : ℕ) (dirs : List DirNode) (end : ℕ) (bytes rest : List ℕ) → IsBytes bytes
    → dirs_read earlier room [] end bytes ≡ Ok (dirs, rest) → Begun dir_name IsDirField earlier room dirs bytes rest
dirs_begun earlier room dirs end bytes rest h read =
    begun dir_name IsDirField earlier room dirs bytes rest
    (nodes_spell dir_name IsDirField earlier 18 (next_dir_read earlier) (dir_next_spells earlier) room [] dirs end bytes rest h read)

-- the same of links, whose names are none of the earlier ones
pub links_begun : (earlier : List (List ℕ)) (room : ℕ) (links : List LinkNode) (end : ℕ) (bytes rest : List ℕ) → IsBytes bytes
    → links_read earlier room [] end bytes ≡ Ok (links, rest) → Begun link_name IsLinkField earlier room links bytes rest
links_begun earlier room links end bytes rest h read =
    begun link_name IsLinkField earlier room links bytes rest
    (nodes_spell link_name IsLinkField earlier 26 (next_link_read earlier) (link_next_spells earlier) room [] links end bytes rest h read)

-- what is left behind a list that was read are bytes
pub begun_bytes : {T : Type 0} (name : T → List ℕ) (IsField : List ℕ → T → Type 0) (earlier : List (List ℕ)) (room : ℕ) (all : List T) (bytes rest : List ℕ)
    → IsBytes bytes → Begun name IsField earlier room all bytes rest → IsBytes rest
begun_bytes name IsField earlier room all bytes rest h l = bytes_back l.front rest (subst IsBytes l.whole h)

-- ---- messages

never_gave : {A B : Type 0} (r : Result A DirRefusal) (e : DirRefusal) (b : B) → (r >>= (λ a. Err e)) ≡ Ok b → ⊥
never_gave (Ok a) e b h = cc
never_gave (Err x) e b h = cc

end_gave : {A : Type 0} (v w : A) (end : ℕ) (bytes : List ℕ) → end_read v end bytes ≡ Ok w → (bytes ≡ []) × (v ≡ w)
unfolding bad_key_read
end_gave v w end [] h = (refl, same_value v w h)
end_gave v w end (b ∷ more) h =
    absurd (never_gave {A = ℕ × List ℕ} (varint_read end (b ∷ more)) (refusal.Key (place end (b ∷ more))) w h)

-- the fault at the end, whatever was read before
same_fault : {A B C : Type 0} (r : Result A DirRefusal) (e x : DirRefusal)
    → (let s : Result B DirRefusal = Err x in s) ≡ (r >>= (λ a. Err e)) → (let s : Result C DirRefusal = r >>= (λ a. Err e) in s) ≡ Err x
same_fault (Ok a) e x h = cc
same_fault (Err y) e x h = cc

-- the fault at the end of a message is the same, whatever was read before
pub end_fault : {A B : Type 0} (v : A) (w : B) (end : ℕ) (bytes : List ℕ) (e : DirRefusal) → Err e ≡ end_read v end bytes → end_read w end bytes ≡ Err e
unfolding bad_key_read
end_fault v w end [] e h = cc
end_fault {A} {B} v w end (b ∷ more) e h =
    same_fault {A = ℕ × List ℕ} {B = A} {C = B} (varint_read end (b ∷ more)) (refusal.Key (place end (b ∷ more))) e h

-- the answer where each list was read and nothing follows
pub message_ok : (end : ℕ) (bytes r1 r2 r3 : List ℕ) (files : List FileNode) (dirs : List DirNode) (links : List LinkNode)
    → files_read most_children [] end bytes ≡ Ok (files, r1) → dirs_read (map file_name files) (most_children - length files) [] end r1 ≡ Ok (dirs, r2)
    → links_read (map file_name files ++ map dir_name dirs) (most_children - length files - length dirs) [] end r2 ≡ Ok (links, r3)
    → (let r : Result (Unit {0}) DirRefusal = Ok tt in r) ≡ end_read {A = Unit {0}} tt end r3 → message_read end bytes ≡ Ok (record { files = files; dirs = dirs; links = links })
unfolding message_read
message_ok end bytes r1 r2 r3 files dirs links f d l ended =
    let none = (end_gave {A = Unit {0}} tt tt end r3 (sym ended)).0 in
    rw (f, d, l, none) refl

-- the answer where each list was read and a key follows
pub message_fault : (end : ℕ) (bytes r1 r2 r3 : List ℕ) (files : List FileNode) (dirs : List DirNode) (links : List LinkNode) (e : DirRefusal)
    → files_read most_children [] end bytes ≡ Ok (files, r1) → dirs_read (map file_name files) (most_children - length files) [] end r1 ≡ Ok (dirs, r2)
    → links_read (map file_name files ++ map dir_name dirs) (most_children - length files - length dirs) [] end r2 ≡ Ok (links, r3)
    → (let r : Result (Unit {0}) DirRefusal = Err e in r) ≡ end_read {A = Unit {0}} tt end r3 → message_read end bytes ≡ Err e
unfolding message_read
message_fault end bytes r1 r2 r3 files dirs links e f d l fault =
    rw (f, d, l) (end_fault {A = Unit {0}} tt _ end r3 e fault)

message_spelled : (bytes r1 r2 r3 : List ℕ) (files : List FileNode) (dirs : List DirNode) (links : List LinkNode) (message : DirMessage)
    → Begun file_name IsFileField [] most_children files bytes r1
    → Begun dir_name IsDirField (map file_name files) (most_children - length files) dirs r1 r2
    → Begun link_name IsLinkField (map file_name files ++ map dir_name dirs) (most_children - length files - length dirs) links r2 r3
    → r3 ≡ [] → record { files = files; dirs = dirs; links = links } ≡ message → Spells bytes message
message_spelled bytes r1 r2 r3 files dirs links message f d l none is =
    let few_files = f.few in
    let few_dirs = d.few in
    let few_links = l.few in
    let whole : bytes ≡ f.front ++ d.front ++ l.front =
    f.whole ∙ ap (λ (xs : List ℕ). f.front ++ xs) (d.whole ∙ ap (λ (xs : List ℕ). d.front ++ xs) (l.whole ∙ ap (λ (xs : List ℕ). l.front ++ xs) none ∙ append-nil l.front))
    ∙ sym (append_assoc f.front d.front l.front) in
    subst (Spells bytes) is (record {
      files = f.front;
      dirs = d.front;
      links = l.front;
      whole = whole;
      are_files = f.fields;
      are_dirs = d.fields;
      are_links = l.fields;
      order = record {
        files_ascend = f.ascends;
        dirs_ascend = d.ascends;
        links_ascend = l.ascends;
        dirs_apart = d.apart;
        links_apart = l.apart;
        few = omega (arith, length-map files file_name, length-map dirs dir_name, length-map links link_name);
      };
    })

-- bytes that are read as a message spell it
pub message_spells : (bytes : List ℕ) (message : DirMessage) (end : ℕ) → IsBytes bytes → message_read end bytes ≡ Ok message → Spells bytes message
unfolding message_read
message_spells bytes message end h read =
    let first = both_gave {A = List FileNode × List ℕ} _ _ _ read in
    let second = both_gave {A = List DirNode × List ℕ} _ _ _ first.2 in
    let third = both_gave {A = List LinkNode × List ℕ} _ _ _ second.2 in
    let ended = end_gave _ message end third.0.1 third.2 in
    let f = files_begun most_children first.0.0 end bytes first.0.1 h first.1 in
    let h1 = begun_bytes file_name IsFileField [] most_children first.0.0 bytes first.0.1 h f in
    let names = map file_name first.0.0 in
    let d = dirs_begun names (most_children - length first.0.0) second.0.0 end first.0.1 second.0.1 h1 second.1 in
    let h2 = begun_bytes dir_name IsDirField names (most_children - length first.0.0) second.0.0 first.0.1 second.0.1 h1 d in
    let l = links_begun (names ++ map dir_name second.0.0) (most_children - length first.0.0 - length second.0.0) third.0.0 end second.0.1 third.0.1 h2 third.1 in
    message_spelled bytes first.0.1 second.0.1 third.0.1 first.0.0 second.0.0 third.0.0 message f d l ended.0 ended.1

apart_nothing : (names : List (List ℕ)) → are_apart [] names ≡ true
apart_nothing [] = refl
apart_nothing (name ∷ names) = apart_nothing names

-- bytes that spell a message are read as it
pub message_back : (bytes : List ℕ) (message : DirMessage) (end : ℕ) → Spells bytes message → length bytes < 2 ^ 64 → message_read end bytes ≡ Ok message
unfolding message_read
message_back bytes m end s short =
    let names = map file_name m.files in
    let both = names ++ map dir_name m.dirs in
    let len = ap length s.whole ∙ length-append (s.files ++ s.dirs) s.links in
    let front_len = length-append s.files s.dirs in
    let few = s.order.few in
    let files_len = length-map m.files file_name in
    let dirs_len = length-map m.dirs dir_name in
    let links_len = length-map m.links link_name in
    let link_stop : (key : ℕ) → nat_eq 26 key ≡ false → begins_with key (s.links ++ []) ≡ false =
    λ key apart. begins_other IsLinkField 26 key (link_begins both) apart m.links s.links [] s.are_links refl in
    let dir_stop : begins_with 10 (s.dirs ++ (s.links ++ [])) ≡ false =
    begins_other IsDirField 18 10 (dir_begins names) refl m.dirs s.dirs (s.links ++ []) s.are_dirs (link_stop 10 refl) in
    let files = nodes_back file_name IsFileField [] 10 next_file_read file_next_back file_begins m.files most_children [] end s.files
    (s.dirs ++ (s.links ++ [])) s.are_files (ascend_new [] None names refl s.order.files_ascend (apart_nothing names)) (omega arith) (omega arith) dir_stop in
    let dirs = nodes_back dir_name IsDirField names 18 (next_dir_read names) (dir_next_back names) (dir_begins names) m.dirs (most_children - length m.files) [] end s.dirs
    (s.links ++ []) s.are_dirs (ascend_new names None (map dir_name m.dirs) refl s.order.dirs_ascend s.order.dirs_apart) (omega arith) (omega arith) (link_stop 18 refl) in
    let links = nodes_back link_name IsLinkField both 26 (next_link_read both) (link_next_back both) (link_begins both) m.links
    (most_children - length m.files - length m.dirs) [] end s.links [] s.are_links
    (ascend_new both None (map link_name m.links) refl s.order.links_ascend s.order.links_apart) (omega arith) (omega arith) refl in
    let split : bytes ≡ s.files ++ (s.dirs ++ (s.links ++ [])) =
    s.whole ∙ append_assoc s.files s.dirs s.links ∙ ap (λ (xs : List ℕ). s.files ++ (s.dirs ++ xs)) (sym (append-nil s.links)) in
    rw (split, files, dirs, links) refl

-- ---- the one text of a message

module _ {T : Type 0} (text : T → List ℕ) (IsField : List ℕ → T → Type 0) (Rules : T → Type 0) where
  fields_text : ((field : List ℕ) (node : T) → IsField field node → field ≡ text node) → (nodes : List T) (bytes : List ℕ) → Fields IsField bytes nodes
      → bytes ≡ flat_map text nodes
  fields_text same [] bytes none = none
  fields_text same (node ∷ nodes) bytes (field, behind, whole, is, fields) =
      let rest = fields_text same nodes behind fields in
      rw (whole, same field node is, rest) refl

  fields_rules : ((field : List ℕ) (node : T) → IsField field node → Rules node) → (nodes : List T) (bytes : List ℕ) → Fields IsField bytes nodes
      → AllByRecursion Rules nodes
  fields_rules rule [] bytes none = tt
  fields_rules rule (node ∷ nodes) bytes (field, behind, whole, is, fields) = (rule field node is, fields_rules rule nodes behind fields)

  fields_of : ((node : T) → Rules node → IsField (text node) node) → (nodes : List T) → AllByRecursion Rules nodes → Fields IsField (flat_map text nodes) nodes
  fields_of made [] all = refl
  fields_of made (node ∷ nodes) (first, rest) = (text node, flat_map text nodes, refl, made node first, fields_of made nodes rest)

-- bytes that spell a message are its one text
pub spells_text : (bytes : List ℕ) (message : DirMessage) → Spells bytes message → bytes ≡ spelled message
spells_text bytes message s =
    let files = fields_text file_text IsFileField IsFile (λ field node is. is.text) message.files s.files s.are_files in
    let dirs = fields_text dir_text IsDirField IsDir (λ field node is. is.text) message.dirs s.dirs s.are_dirs in
    let links = fields_text link_text IsLinkField IsLink (λ field node is. is.text) message.links s.links s.are_links in
    rw (s.whole, files, dirs, links) refl

-- a message that some bytes spell meets the side rules
pub spells_rules : (bytes : List ℕ) (message : DirMessage) → Spells bytes message → IsMessage message
spells_rules bytes message s = record {
  files = fields_rules file_text IsFileField IsFile (λ field node is. is.rules) message.files s.files s.are_files;
  dirs = fields_rules dir_text IsDirField IsDir (λ field node is. is.rules) message.dirs s.dirs s.are_dirs;
  links = fields_rules link_text IsLinkField IsLink (λ field node is. is.rules) message.links s.links s.are_links;
  order = s.order;
}

-- the text of a message that meets the side rules spells it
pub text_spells : (message : DirMessage) → IsMessage message → Spells (spelled message) message
text_spells message h = record {
  files = flat_map file_text message.files;
  dirs = flat_map dir_text message.dirs;
  links = flat_map link_text message.links;
  whole = refl;
  are_files = fields_of file_text IsFileField IsFile (λ node rules. record { text = refl; rules = rules }) message.files h.files;
  are_dirs = fields_of dir_text IsDirField IsDir (λ node rules. record { text = refl; rules = rules }) message.dirs h.dirs;
  are_links = fields_of link_text IsLinkField IsLink (λ node rules. record { text = refl; rules = rules }) message.links h.links;
  order = h.order;
}
