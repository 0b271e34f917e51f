-- What is written of a node is read as it, and what is read as a node was written of it.
use Rattle.mat_tree.specs.Trees.{greatest_file}
use Rattle.std.specs.Cmp.{first_so, second_so}
use Rattle.std.proofs.Common.{◌≡◌, ℕ, zero, suc, ◌^◌, ◌<◌, ◌≤◌, nat_le, Bool, true, false, ◌&&◌, not, List, [], ◌∷◌, ◌++◌, length, Option, Some, None, Ok, refl, sym, ap, ◌∙◌, subst, arith, length-append, append-nil, append_assoc}
use Rattle.std.specs.List.{list_all}
use Rattle.std.proofs.lemmas.Bool.{eqb-true, le-leb, leb-true}
use Rattle.hex.specs.Hex.{IsBytes, encode_lower, lower_digits}
use Rattle.hex.proofs.HexLemmas.{length-encode_with}
use Rattle.mat_digest.specs.Digests.{IsDigest, hash_text}
use Rattle.mat_digest.specs.declared.digest.Digest.{Digest}
use Rattle.mat_digest.proofs.Laws.{encode_lower-read_hash, read_hash-encode_lower}
use Rattle.mat_path.specs.Names.{is_name, is_name_byte, is_target, is_dots, is_text_byte}
use Rattle.mat_tree.specs.Messages.{bytes_field, digest_message, dir_message, file_message, flag, link_message, number_field, varint}
use Rattle.reapi_dir.specs.declared.message.FileNode.{FileNode}
use Rattle.reapi_dir.specs.declared.message.DirNode.{DirNode}
use Rattle.reapi_dir.specs.declared.message.LinkNode.{LinkNode}
use Rattle.reapi_dir.specs.Grammar.{IsDir, IsFile, IsLink, greatest_dir}
use Rattle.reapi_dir.specs.Reading.{dir_read, digest_field_read, digest_read, exec_field_read, exec_read, file_read, hash_at, is_new, link_read, name_field_read, name_read, size_field_read, size_read, target_read}
use Rattle.reapi_dir.specs.Wire.{groups_read, key_read, last_read, place, varint_read}
use Rattle.reapi_dir.proofs.WireBack.{both_gave, bytes_back, field_back, field_spells, key_back, key_spells, keyed, keyed_bytes, same_first, same_second, same_value, test_gave, varint_back, varint_spells}

-- ---- the end of a message

-- where nothing may follow and a value was given, nothing followed
pub last_gave : {A : Type 0} (v w : A) (end : ℕ) (bytes : List ℕ) → last_read v end bytes ≡ Ok w → (bytes ≡ []) × (v ≡ w)
last_gave v w end [] h = (refl, same_value v w h)
last_gave v w end (b ∷ more) h = cc

varint_alone : (n end : ℕ) → n < 2 ^ 64 → varint_read end (varint n) ≡ Ok (n, [])
varint_alone n end fits = subst (λ (xs : List ℕ). varint_read end xs ≡ Ok (n, [])) (append-nil (varint n)) (varint_back n end [] fits)

-- ---- sizes and digests

size_back : (size limit end : ℕ) → size ≤ limit → size < 2 ^ 64 → size_read limit end (number_field 2 size) ≡ Ok size
unfolding size_field_read
size_back zero limit end le fits = refl
size_back (suc n) limit end le fits =
    let some : nat_le 1 (suc n) ≡ true = le-leb 1 (suc n) (omega arith) in
    let most : nat_le (suc n) limit ≡ true = le-leb (suc n) limit le in
    rw (key_back 16 end (varint (suc n)) (omega arith), varint_alone (suc n) end fits, some, most) refl

size_spells : (bytes : List ℕ) (size limit end : ℕ) → IsBytes bytes → size_read limit end bytes ≡ Ok size
    → (bytes ≡ number_field 2 size) × (size ≤ limit)
unfolding size_field_read
size_spells [] size limit end h read =
    let none : 0 ≡ size = same_value 0 size read in
    (rw (← none) refl, omega arith)
size_spells (b ∷ more) size limit end h read =
    let first = both_gave {A = List ℕ} _ _ _ read in
    let second = both_gave {A = ℕ × List ℕ} _ _ _ first.2 in
    let third = both_gave {A = ℕ} _ _ _ second.2 in
    let passed = test_gave {A = ℕ} _ _ _ _ third.1 in
    let last = last_gave _ _ _ _ third.2 in
    let key = key_spells (b ∷ more) 16 end first.0 h first.1 in
    let number = varint_spells first.0 second.0.0 end second.0.1 (bytes_back (varint 16) first.0 (subst IsBytes key h)) second.1 in
    size_spelled (b ∷ more) first.0 second.0.1 second.0.0 third.0 size limit key number.0 last.0 passed.1 last.1
    (leb-true 1 second.0.0 (first_so _ _ passed.0)) (leb-true second.0.0 limit (second_so _ _ passed.0))
  where
    size_spelled : (bytes first rest : List ℕ) (number fitting size limit : ℕ) → bytes ≡ varint 16 ++ first → first ≡ varint number ++ rest → rest ≡ []
        → number ≡ fitting → fitting ≡ size → 1 ≤ number → number ≤ limit → (bytes ≡ number_field 2 size) × (size ≤ limit)
    size_spelled bytes first rest zero fitting size limit a b none is same some le = absurd (omega arith)
    size_spelled bytes first rest (suc n) fitting size limit a b none is same some le =
        let whole : suc n ≡ size = is ∙ same in
        (rw (a, b, none, ← whole) (ap (λ (xs : List ℕ). 16 ∷ xs) (append-nil (varint (suc n)))), rw (← whole) le)

hash_gave : (at : ℕ) (found : Option (List ℕ)) (hash : List ℕ) → hash_at at found ≡ Ok hash → found ≡ Some hash
hash_gave at None hash h = cc
hash_gave at (Some x) hash h = cc

hash_len : (d : Digest) → IsDigest d → length (hash_text d) ≡ 64
hash_len d h = omega (arith, length-encode_with lower_digits d.hash, h.hash_len)

-- the message of a digest within the limit is read as that digest
pub digest_back : (d : Digest) (limit end : ℕ) → IsDigest d → d.size ≤ limit → digest_read limit end (digest_message d) ≡ Ok d
unfolding digest_read
digest_back d limit end h le =
    let len = hash_len d h in
    rw (
      field_back 10 end (hash_text d) (number_field 2 d.size) (omega arith) (omega arith),
      read_hash-encode_lower d.hash h.hash_len h.hash_bytes,
      size_back d.size limit end le h.size_fits,
    ) refl

-- bytes that are read as a digest are its message, and it is a digest within the limit
pub digest_spells : (bytes : List ℕ) (d : Digest) (limit end : ℕ) → IsBytes bytes → limit < 2 ^ 64 → digest_read limit end bytes ≡ Ok d
    → (bytes ≡ digest_message d) × IsDigest d × (d.size ≤ limit)
unfolding digest_read
digest_spells bytes d limit end h fits read =
    let first = both_gave {A = List ℕ × List ℕ} _ _ _ read in
    let second = both_gave {A = List ℕ} _ _ _ first.2 in
    let third = both_gave {A = ℕ} _ _ _ second.2 in
    let field = field_spells bytes 10 end first.0.0 first.0.1 h first.1 in
    let hash = encode_lower-read_hash first.0.0 second.0 (hash_gave _ _ _ second.1) in
    let size = size_spells first.0.1 third.0 limit end (bytes_back (keyed 10 first.0.0) first.0.1 (subst IsBytes field h)) third.1 in
    digest_spelled bytes first.0.0 first.0.1 second.0 third.0 d field hash.0 hash.1 hash.2 size.0 size.1 (same_value _ d third.2)
  where
    digest_spelled : (bytes text behind hash : List ℕ) (size : ℕ) (d : Digest) → bytes ≡ keyed 10 text ++ behind → text ≡ encode_lower hash → length hash ≡ 32
        → IsBytes hash → behind ≡ number_field 2 size → size ≤ limit → record { hash = hash; size = size } ≡ d
        → (bytes ≡ digest_message d) × IsDigest d × (d.size ≤ limit)
    digest_spelled bytes text behind hash size d a b len each c le is =
        subst (λ (x : Digest). (bytes ≡ digest_message x) × IsDigest x × (x.size ≤ limit)) is
        (rw (a, b, c) refl, record { hash_len = len; hash_bytes = each; size_fits = omega arith }, le)

-- the field of a digest within the limit is read as that digest
pub digest_field_back : (d : Digest) (limit end : ℕ) (rest : List ℕ) → IsDigest d → d.size ≤ limit → length (digest_message d) < 2 ^ 64
    → digest_field_read limit end (bytes_field 2 (digest_message d) ++ rest) ≡ Ok (d, rest)
unfolding digest_field_read
digest_field_back d limit end rest h le short =
    rw (field_back 18 end (digest_message d) rest (omega arith) short, digest_back d limit (place end rest) h le) refl

-- bytes that are read as the field of a digest begin with it, and it is a digest within the limit
pub digest_field_spells : (bytes : List ℕ) (d : Digest) (limit end : ℕ) (rest : List ℕ) → IsBytes bytes → limit < 2 ^ 64
    → digest_field_read limit end bytes ≡ Ok (d, rest) → (bytes ≡ bytes_field 2 (digest_message d) ++ rest) × IsDigest d × (d.size ≤ limit)
unfolding digest_field_read
digest_field_spells bytes d limit end rest h fits read =
    let first = both_gave {A = List ℕ × List ℕ} _ _ _ read in
    let second = both_gave {A = Digest} _ _ _ first.2 in
    let field = field_spells bytes 18 end first.0.0 first.0.1 h first.1 in
    let inner = digest_spells first.0.0 second.0 limit (place end first.0.1)
    (keyed_bytes 18 first.0.0 first.0.1 (subst IsBytes field h)) fits second.1 in
    digest_field_spelled bytes first.0.0 first.0.1 rest second.0 d field inner.0 inner.1 inner.2 (same_first second.0 d first.0.1 rest second.2)
    (same_second second.0 d first.0.1 rest second.2)
  where
    digest_field_spelled : (bytes message behind rest : List ℕ) (x d : Digest) → bytes ≡ keyed 18 message ++ behind → message ≡ digest_message x → IsDigest x
        → x.size ≤ limit → x ≡ d → behind ≡ rest → (bytes ≡ bytes_field 2 (digest_message d) ++ rest) × IsDigest d × (d.size ≤ limit)
    digest_field_spelled bytes message behind rest x d a b rules le same end =
        subst (λ (y : Digest). (bytes ≡ bytes_field 2 (digest_message y) ++ rest) × IsDigest y × (y.size ≤ limit)) same
        (rw (a, b, end) refl, rules, le)

-- ---- names and targets

-- a name has at most 255 bytes
pub name_len : (name : List ℕ) → is_name name ≡ true → length name ≤ 255
name_len name h =
    leb-true (length name) 255 (second_so (nat_le 1 (length name)) (nat_le (length name) 255)
    (first_so (nat_le 1 (length name) && nat_le (length name) 255) (list_all is_name_byte name)
    (first_so (nat_le 1 (length name) && nat_le (length name) 255 && list_all is_name_byte name) (not (is_dots name)) h)))

-- a target has at most 1,024 bytes
pub target_len : (target : List ℕ) → is_target target ≡ true → length target ≤ 1024
target_len target h =
    leb-true (length target) 1024 (second_so (nat_le 1 (length target)) (nat_le (length target) 1024)
    (first_so (nat_le 1 (length target) && nat_le (length target) 1024) (list_all is_text_byte target) h))

-- the field of a name that is new is read as that name
pub name_back : (last : Option (List ℕ)) (earlier : List (List ℕ)) (name : List ℕ) (end : ℕ) (rest : List ℕ) → is_name name ≡ true
    → is_new last earlier name ≡ true → name_read last earlier end (bytes_field 1 name ++ rest) ≡ Ok (name, rest)
unfolding name_read name_field_read
name_back last earlier name end rest h new =
    let len = name_len name h in
    rw (field_back 10 end name rest (omega arith) (omega arith), h, new) refl

-- bytes that are read as the field of a name begin with it, and it is a name that is new
pub name_spells : (last : Option (List ℕ)) (earlier : List (List ℕ)) (bytes name : List ℕ) (end : ℕ) (rest : List ℕ) → IsBytes bytes
    → name_read last earlier end bytes ≡ Ok (name, rest)
    → (bytes ≡ bytes_field 1 name ++ rest) × (is_name name ≡ true) × (is_new last earlier name ≡ true)
unfolding name_read name_field_read
name_spells last earlier bytes name end rest h read =
    let first = both_gave {A = List ℕ × List ℕ} _ _ _ read in
    let second = both_gave {A = List ℕ × List ℕ} _ _ _ first.1 in
    let named = test_gave {A = List ℕ × List ℕ} _ _ _ _ second.2 in
    let new = test_gave {A = List ℕ × List ℕ} _ _ _ _ first.2 in
    let same : second.0 ≡ first.0 = named.1 in
    let field = field_spells bytes 10 end second.0.0 second.0.1 h second.1 in
    name_spelled second.0 first.0 (name, rest) field named.0 new.0 same new.1
  where
    name_spelled : (p q r : List ℕ × List ℕ) → bytes ≡ keyed 10 p.0 ++ p.1 → is_name p.0 ≡ true → is_new last earlier q.0 ≡ true → p ≡ q → q ≡ r
        → (bytes ≡ bytes_field 1 r.0 ++ r.1) × (is_name r.0 ≡ true) × (is_new last earlier r.0 ≡ true)
    name_spelled p q r a b c e f =
        let g : p ≡ r = e ∙ f in (
          subst (λ (x : List ℕ × List ℕ). bytes ≡ keyed 10 x.0 ++ x.1) g a,
          subst (λ (x : List ℕ × List ℕ). is_name x.0 ≡ true) g b,
          subst (λ (x : List ℕ × List ℕ). is_new last earlier x.0 ≡ true) f c,
        )

-- the field of a target is read as that target
pub target_back : (target : List ℕ) (end : ℕ) (rest : List ℕ) → is_target target ≡ true → target_read end (bytes_field 2 target ++ rest) ≡ Ok (target, rest)
unfolding target_read
target_back target end rest h =
    let len = target_len target h in
    rw (field_back 18 end target rest (omega arith) (omega arith), h) refl

-- bytes that are read as the field of a target begin with it, and it is a target
pub target_spells : (bytes target : List ℕ) (end : ℕ) (rest : List ℕ) → IsBytes bytes → target_read end bytes ≡ Ok (target, rest)
    → (bytes ≡ bytes_field 2 target ++ rest) × (is_target target ≡ true)
unfolding target_read
target_spells bytes target end rest h read =
    let first = both_gave {A = List ℕ × List ℕ} _ _ _ read in
    let fine = test_gave {A = List ℕ × List ℕ} _ _ _ _ first.2 in
    let field = field_spells bytes 18 end first.0.0 first.0.1 h first.1 in
    target_spelled first.0 (target, rest) field fine.0 fine.1
  where
    target_spelled : (p r : List ℕ × List ℕ) → bytes ≡ keyed 18 p.0 ++ p.1 → is_target p.0 ≡ true → p ≡ r
        → (bytes ≡ bytes_field 2 r.0 ++ r.1) × (is_target r.0 ≡ true)
    target_spelled p r a b f =
        (subst (λ (x : List ℕ × List ℕ). bytes ≡ keyed 18 x.0 ++ x.1) f a, subst (λ (x : List ℕ × List ℕ). is_target x.0 ≡ true) f b)

-- ---- flags

exec_back : (exec : Bool) (end : ℕ) → exec_read end (number_field 4 (flag exec)) ≡ Ok exec
unfolding exec_field_read key_read varint_read groups_read
exec_back true end = refl
exec_back false end = refl

exec_spells : (bytes : List ℕ) (exec : Bool) (end : ℕ) → IsBytes bytes → exec_read end bytes ≡ Ok exec → bytes ≡ number_field 4 (flag exec)
unfolding exec_field_read
exec_spells [] exec end h read =
    let none : false ≡ exec = same_value false exec read in
    rw (← none) refl
exec_spells (b ∷ more) exec end h read =
    let first = both_gave {A = List ℕ} _ _ _ read in
    let second = both_gave {A = ℕ × List ℕ} _ _ _ first.2 in
    let third = both_gave {A = Bool} _ _ _ second.2 in
    let passed = test_gave {A = Bool} _ _ _ _ third.1 in
    let last = last_gave _ _ _ _ third.2 in
    let key = key_spells (b ∷ more) 32 end first.0 h first.1 in
    let number = varint_spells first.0 second.0.0 end second.0.1 (bytes_back (varint 32) first.0 (subst IsBytes key h)) second.1 in
    exec_spelled (b ∷ more) first.0 second.0.1 second.0.0 exec key number.0 last.0 (eqb-true second.0.0 1 passed.0) (passed.1 ∙ last.1)
  where
    exec_spelled : (bytes first rest : List ℕ) (number : ℕ) (exec : Bool) → bytes ≡ varint 32 ++ first → first ≡ varint number ++ rest → rest ≡ []
        → number ≡ 1 → true ≡ exec → bytes ≡ number_field 4 (flag exec)
    exec_spelled bytes first rest number exec a b none one same = rw (a, b, none, one, ← same) refl

-- ---- nodes

-- the last of three parts is no longer than the whole
pub inner_len : (a b c : List ℕ) → length c ≤ length (a ++ b ++ c)
inner_len a b c = omega (arith, length-append (a ++ b) c)

-- the message of a file that meets the rules, with a new name, is read as that file
pub file_back : (node : FileNode) (last : Option (List ℕ)) (end : ℕ) → IsFile node → is_new last [] node.name ≡ true
    → length (file_message node.name node.digest node.exec) < 2 ^ 64 → file_read last end (file_message node.name node.digest node.exec) ≡ Ok node
unfolding file_read
file_back node last end h new short =
    let name = bytes_field 1 node.name in
    let digest = bytes_field 2 (digest_message node.digest) in
    let exec = number_field 4 (flag node.exec) in
    let split : name ++ digest ++ exec ≡ name ++ (digest ++ exec) = append_assoc name digest exec in
    let all = length-append (name ++ digest) exec in
    let front = length-append name digest in
    let inside = inner_len (varint 18) (varint (length (digest_message node.digest))) (digest_message node.digest) in
    rw (
      split,
      name_back last [] node.name end (digest ++ exec) h.named new,
      digest_field_back node.digest greatest_file end exec h.digest h.size (omega arith),
      exec_back node.exec end,
    ) refl

-- bytes that are read as a file are its message, and it meets the rules and has a new name
pub file_spells : (bytes : List ℕ) (node : FileNode) (last : Option (List ℕ)) (end : ℕ) → IsBytes bytes → file_read last end bytes ≡ Ok node
    → (bytes ≡ file_message node.name node.digest node.exec) × IsFile node × (is_new last [] node.name ≡ true)
unfolding file_read
file_spells bytes node last end h read =
    let small : greatest_file < 2 ^ 64 = omega arith in
    let first = both_gave {A = List ℕ × List ℕ} _ _ _ read in
    let second = both_gave {A = Digest × List ℕ} _ _ _ first.2 in
    let third = both_gave {A = Bool} _ _ _ second.2 in
    let name = name_spells last [] bytes first.0.0 end first.0.1 h first.1 in
    let behind = bytes_back (bytes_field 1 first.0.0) first.0.1 (subst IsBytes name.0 h) in
    let digest = digest_field_spells first.0.1 second.0.0 greatest_file end second.0.1 behind small second.1 in
    let exec = exec_spells second.0.1 third.0 end
    (bytes_back (bytes_field 2 (digest_message second.0.0)) second.0.1 (subst IsBytes digest.0 behind)) third.1 in
    file_spelled first.0.0 first.0.1 second.0.1 second.0.0 third.0 node name.0 name.1 name.2 digest.0 digest.1 digest.2 exec (same_value _ node third.2)
  where
    file_spelled : (name first second : List ℕ) (digest : Digest) (exec : Bool) (node : FileNode) → bytes ≡ bytes_field 1 name ++ first → is_name name ≡ true
        → is_new last [] name ≡ true → first ≡ bytes_field 2 (digest_message digest) ++ second → IsDigest digest → digest.size ≤ greatest_file
        → second ≡ number_field 4 (flag exec) → record { name = name; digest = digest; exec = exec } ≡ node
        → (bytes ≡ file_message node.name node.digest node.exec) × IsFile node × (is_new last [] node.name ≡ true)
    file_spelled name first second digest exec node a named new b rules le c is =
        subst (λ (x : FileNode). (bytes ≡ file_message x.name x.digest x.exec) × IsFile x × (is_new last [] x.name ≡ true)) is (
          a ∙ ap (λ (xs : List ℕ). bytes_field 1 name ++ xs) (b ∙ ap (λ (xs : List ℕ). bytes_field 2 (digest_message digest) ++ xs) c)
              ∙ sym (append_assoc (bytes_field 1 name) (bytes_field 2 (digest_message digest)) (number_field 4 (flag exec))),
          record { named = named; digest = rules; size = le },
          new,
        )

-- the message of a directory that meets the rules, with a new name, is read as that directory
pub dir_back : (node : DirNode) (last : Option (List ℕ)) (earlier : List (List ℕ)) (end : ℕ) → IsDir node → is_new last earlier node.name ≡ true
    → length (dir_message node.name node.digest) < 2 ^ 64 → dir_read last earlier end (dir_message node.name node.digest) ≡ Ok node
unfolding dir_read
dir_back node last earlier end h new short =
    let name = bytes_field 1 node.name in
    let digest = bytes_field 2 (digest_message node.digest) in
    let front = length-append name digest in
    let inside = inner_len (varint 18) (varint (length (digest_message node.digest))) (digest_message node.digest) in
    let alone : digest_field_read greatest_dir end digest ≡ Ok (node.digest, []) =
    subst (λ (xs : List ℕ). digest_field_read greatest_dir end xs ≡ Ok (node.digest, [])) (append-nil digest)
    (digest_field_back node.digest greatest_dir end [] h.digest h.size (omega arith)) in
    rw (name_back last earlier node.name end digest h.named new, alone) refl

-- bytes that are read as a directory are its message, and it meets the rules and has a new name
pub dir_spells : (bytes : List ℕ) (node : DirNode) (last : Option (List ℕ)) (earlier : List (List ℕ)) (end : ℕ) → IsBytes bytes
    → dir_read last earlier end bytes ≡ Ok node
    → (bytes ≡ dir_message node.name node.digest) × IsDir node × (is_new last earlier node.name ≡ true)
unfolding dir_read
dir_spells bytes node last earlier end h read =
    let small : greatest_dir < 2 ^ 64 = omega arith in
    let first = both_gave {A = List ℕ × List ℕ} _ _ _ read in
    let second = both_gave {A = Digest × List ℕ} _ _ _ first.2 in
    let ended = last_gave _ node end second.0.1 second.2 in
    let name = name_spells last earlier bytes first.0.0 end first.0.1 h first.1 in
    let behind = bytes_back (bytes_field 1 first.0.0) first.0.1 (subst IsBytes name.0 h) in
    let digest = digest_field_spells first.0.1 second.0.0 greatest_dir end second.0.1 behind small second.1 in
    dir_spelled first.0.0 first.0.1 second.0.1 second.0.0 node name.0 name.1 name.2 digest.0 digest.1 digest.2 ended.0 ended.1
  where
    dir_spelled : (name first second : List ℕ) (digest : Digest) (node : DirNode) → bytes ≡ bytes_field 1 name ++ first → is_name name ≡ true
        → is_new last earlier name ≡ true → first ≡ bytes_field 2 (digest_message digest) ++ second → IsDigest digest → digest.size ≤ greatest_dir
        → second ≡ [] → record { name = name; digest = digest } ≡ node
        → (bytes ≡ dir_message node.name node.digest) × IsDir node × (is_new last earlier node.name ≡ true)
    dir_spelled name first second digest node a named new b rules le none is =
        subst (λ (x : DirNode). (bytes ≡ dir_message x.name x.digest) × IsDir x × (is_new last earlier x.name ≡ true)) is (
          a ∙ ap (λ (xs : List ℕ). bytes_field 1 name ++ xs)
              (b ∙ ap (λ (xs : List ℕ). bytes_field 2 (digest_message digest) ++ xs) none ∙ append-nil (bytes_field 2 (digest_message digest))),
          record { named = named; digest = rules; size = le },
          new,
        )

-- the message of a link that meets the rules, with a new name, is read as that link
pub link_back : (node : LinkNode) (last : Option (List ℕ)) (earlier : List (List ℕ)) (end : ℕ) → IsLink node → is_new last earlier node.name ≡ true
    → link_read last earlier end (link_message node.name node.target) ≡ Ok node
unfolding link_read
link_back node last earlier end h new =
    let target = bytes_field 2 node.target in
    let alone : target_read end target ≡ Ok (node.target, []) =
    subst (λ (xs : List ℕ). target_read end xs ≡ Ok (node.target, [])) (append-nil target) (target_back node.target end [] h.target) in
    rw (name_back last earlier node.name end target h.named new, alone) refl

-- bytes that are read as a link are its message, and it meets the rules and has a new name
pub link_spells : (bytes : List ℕ) (node : LinkNode) (last : Option (List ℕ)) (earlier : List (List ℕ)) (end : ℕ) → IsBytes bytes
    → link_read last earlier end bytes ≡ Ok node
    → (bytes ≡ link_message node.name node.target) × IsLink node × (is_new last earlier node.name ≡ true)
unfolding link_read
link_spells bytes node last earlier end h read =
    let first = both_gave {A = List ℕ × List ℕ} _ _ _ read in
    let second = both_gave {A = List ℕ × List ℕ} _ _ _ first.2 in
    let ended = last_gave _ node end second.0.1 second.2 in
    let name = name_spells last earlier bytes first.0.0 end first.0.1 h first.1 in
    let behind = bytes_back (bytes_field 1 first.0.0) first.0.1 (subst IsBytes name.0 h) in
    let target = target_spells first.0.1 second.0.0 end second.0.1 behind second.1 in
    link_spelled first.0.0 first.0.1 second.0.0 second.0.1 node name.0 name.1 name.2 target.0 target.1 ended.0 ended.1
  where
    link_spelled : (name first target second : List ℕ) (node : LinkNode) → bytes ≡ bytes_field 1 name ++ first → is_name name ≡ true
        → is_new last earlier name ≡ true → first ≡ bytes_field 2 target ++ second → is_target target ≡ true → second ≡ []
        → record { name = name; target = target } ≡ node
        → (bytes ≡ link_message node.name node.target) × IsLink node × (is_new last earlier node.name ≡ true)
    link_spelled name first target second node a named new b fine none is =
        subst (λ (x : LinkNode). (bytes ≡ link_message x.name x.target) × IsLink x × (is_new last earlier x.name ≡ true)) is (
          a ∙ ap (λ (xs : List ℕ). bytes_field 1 name ++ xs) (b ∙ ap (λ (xs : List ℕ). bytes_field 2 target ++ xs) none ∙ append-nil (bytes_field 2 target)),
          record { named = named; target = fine },
          new,
        )
