-- A store in memory, as contracts see it.
use Rattle.std.specs.Prelude.{◌≡◌, ℕ, Bool, false, List, Some}
use Rattle.std.specs.BTreeMap.{get}
use Rattle.std.specs.Ordering.{is_eq}
use Rattle.mat_digest.specs.declared.digest.Digest.{Digest}
use Rattle.fetch_port.specs.declared.mem_store.MemStore.{MemStore}
use Rattle.fetch_port.specs.Fetches.{Blobs}
use Rattle.fetch_port.specs.Keys.{key_cmp, key_of}
use Rattle.mat_io.specs.Watches.{Watch}

-- the bytes that a store in memory holds under a digest
abbrev pub blobs_of : MemStore → Blobs
blobs_of store digest = get key_cmp store.blobs (key_of digest)

-- what a store in memory counts: its fetches, its calls, the faults among them, and whether the next one is to fail
abbrev pub store_asks : MemStore → ℕ
store_asks store = store.asks

abbrev pub store_calls : MemStore → ℕ
store_calls store = store.calls

abbrev pub store_faults : MemStore → ℕ
store_faults store = store.faults

abbrev pub is_store_armed : MemStore → Bool
is_store_armed store = store.armed

-- its calls, and whether the next one is to fail
abbrev pub store_watch : MemStore → Watch
store_watch store = record { calls = store.calls; armed = store.armed }

-- a store has counted nothing, and its next call isn't to fail
pub record IsFresh (store : MemStore) : Type 0 where
  pub asks : store.asks ≡ 0
  pub faults : store.faults ≡ 0
  pub calls : store.calls ≡ 0
  pub armed : store.armed ≡ false

-- these bytes were put under a digest, and what stands under each other digest stayed
pub record HasPut (digest : Digest) (bytes : List ℕ) (old new : MemStore) : Type 0 where
  pub found : blobs_of new digest ≡ Some bytes
  pub others : (other : Digest) → is_eq (key_cmp (key_of digest) (key_of other)) ≡ false → blobs_of new other ≡ blobs_of old other

-- no call of the store was counted, and what is armed stays
pub record IsUncalled (old new : MemStore) : Type 0 where
  pub asks : new.asks ≡ old.asks
  pub faults : new.faults ≡ old.faults
  pub calls : new.calls ≡ old.calls
  pub armed : new.armed ≡ old.armed
