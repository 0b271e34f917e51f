-- What a store brings for a digest.
use Rattle.std.specs.Prelude.{◌≡◌, ℕ, List, Option, Some, None}
use Rattle.mat_digest.specs.declared.digest.Digest.{Digest}
use Rattle.buckd.specs.Making.{fetch_failure}
use Rattle.buckd.specs.declared.making.Brought.{Brought}
use Rattle.buckd.specs.declared.making.Brought.TheVariants as brought

-- bytes that were given are brought where nothing is wrong with them, or else how they fail
abbrev pub Brings : Option (List ℕ) → Digest → Brought → Type 0
Brings found wanted (brought.Bytes bytes) = (found ≡ Some bytes.items) × (fetch_failure wanted found ≡ None)
Brings found wanted (brought.Failure failure) = fetch_failure wanted found ≡ Some failure
