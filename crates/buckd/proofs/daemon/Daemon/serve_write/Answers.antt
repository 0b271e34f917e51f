use Rattle.std.proofs.Common.{◌≡◌, ℕ, ◌+◌, List, length, false, refl, ap, ap₂, subst, ◌∙◌, arith}
use Rattle.mat_digest.specs.declared.digest.Digest.{Digest}
use Rattle.mat_digest.specs.Digests.{digest_of}
use Rattle.mat_tree.specs.declared.flat.Flat.{Flat}
use Rattle.mat_tree.specs.Trees.{file_sum}
use Rattle.mat_model.specs.declared.requests.Asked.TheVariants as asked
use Rattle.mat_model.specs.Declarations.{declare_tree}
use Rattle.buckd.specs.Daemon.{Steps, book_of}
use Rattle.buckd.proofs.Kept.{asked-steps, kept-after}
use Rattle.buckd.proofs.daemon.Daemon.serve_write.Goals as goal

pub returns-clause-served : goal.returns-clause-served
returns-clause-served c =
    let count = length c.args.self.now.history.items in
    let number : count ≡ 0 + count = omega arith in
    let digest : c.of-digest.result ≡ digest_of c.args.bytes = c.of-digest.ensures ∙ ap digest_of c.as_slice.ensures in
    subst (λ (d : Digest).
    Steps (asked.Write c.args.command c.args.path (file_sum d false)) c.args.self.now
    (record c.declare.new.self { history = c.enter_asked.new.history }) c.in_ok-reply.reply) digest
    (asked-steps (asked.Write c.args.command c.args.path (file_sum c.of-digest.result false)) c.args.self.now c.declare.new.self _ c.in_ok-reply.reply _
    (ap₂ (λ (n : ℕ) (tree : List Flat). declare_tree n c.args.command c.args.path tree (book_of c.args.self.now)) number c.in_ok-tree.ensures)
    c.in_ok-reply.ensures.served refl refl refl c.in_ok-enter_asked.ensures)

pub returns-clause-kept : goal.returns-clause-kept
returns-clause-kept c =
    kept-after (asked.Write c.args.command c.args.path (file_sum c.of-digest.result false)) c.args.self.now c.declare.new.self _ c.in_ok-reply.reply _ _
    c.in_ok-reply.ensures.served refl c.in_ok-reply.ensures.kept
    (record { state = refl; live = refl; rows = refl; methods = refl; disk = refl }) c.in_ok-enter_asked.ensures
