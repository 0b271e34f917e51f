-- Digests in order.
use Rattle.std.specs.Prelude.{ℕ, nat_eq, Bool, List}
use Rattle.std.specs.Ordering.{eq_of_both, nat_cmp, on, then_cmp}
use Rattle.std.specs.declared.cmp.Ordering.{Ordering}
use Rattle.mat_digest.specs.declared.digest.Digest.{Digest}
use Rattle.mat_path.specs.Names.{name_cmp, same_name}
use Rattle.fetch_port.specs.declared.key.Key.{Key}

-- the key of a digest
abbrev pub key_of : Digest → Key
key_of digest = record { hash = digest.hash; size = digest.size }

-- the hash and the size of a key
abbrev pub hash_of : Key → List ℕ
hash_of key = key.hash

abbrev pub size_of : Key → ℕ
size_of key = key.size

-- whether two keys are the same
abbrev pub same_key : Key → Key → Bool
same_key = eq_of_both (on hash_of same_name) (on size_of nat_eq)

-- the order of keys: by hash, and then by size
abbrev pub key_cmp : Key → Key → Ordering
key_cmp = then_cmp (on hash_of name_cmp) (on size_of nat_cmp)
