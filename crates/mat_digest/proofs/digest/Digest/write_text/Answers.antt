use Rattle.std.proofs.Common.{◌≡◌, ◌∙◌, ap, arith, length, refl}
use Rattle.std.specs.Prelude.{decimal}
use Rattle.hex.proofs.HexLemmas.{length-encode_with}
use Rattle.hex.specs.Hex.{encode_lower, lower_digits}
use Rattle.mat_digest.proofs.Texts.{text_put}
use Rattle.mat_digest.proofs.digest.Digest.write_text.Goals as goal

pub returns-clause-text : goal.returns-clause-text
returns-clause-text c =
    let output = c.encode_to_slice.new.output in
    let part = c.copy_from_slice.new.self in
    let hash : output ≡ encode_lower c.args.self.now.hash = rw c.unwrap.ensures at c.encode_to_slice.ensures.written in
    let copied = c.copy_from_slice.ensures.after in
    let size : part ≡ decimal c.args.self.now.size = copied ∙ c.as_bytes-size.ensures.value ∙ c.format.ensures.text in
    let len = length-encode_with lower_digits c.args.self.now.hash in
    text_put output _ part _ _ (omega (arith, len, ap length hash)) (omega arith) (omega (arith, ap length copied))
    ∙ rw (hash, size) refl
