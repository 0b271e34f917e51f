use Rattle.std.proofs.Common.{◌≡◌, false, find, None, refl, sym, ◌∙◌, ap, subst}
use Rattle.mat_digest.specs.Digests.{digest_of}
use Rattle.mat_tree.specs.Trees.{file_sum}
use Rattle.mat_model.specs.declared.answers.Reply.TheVariants as reply
use Rattle.mat_model.specs.declared.requests.Asked.TheVariants as asked
use Rattle.mat_model.specs.Declarations.{written_tree}
use Rattle.write_plan.specs.declared.method.Method.TheVariants as method
use Rattle.mat_core.specs.Declaring.{IsDeclaring}
use Rattle.mat_core.specs.Served.{Serves}
use Rattle.mat_core.specs.Writing.{IsWriting, lies_equal}
use Rattle.mat_core.proofs.DeclareLemmas.{has_nodes, nodes_full, refused_serves}
use Rattle.mat_core.proofs.WriteLemmas.{lying_absent, ruled_apart, write_declaring, write_refused, write_writing}
use Rattle.mat_core.proofs.parts.Parts.serve_write.Goals as goal

pub returns-in-Some : goal.returns-in-Some
returns-in-Some g c =
    nodes_full c.args.number 1 (asked.Write c.args.command c.args.path (file_sum (digest_of c.args.bytes.items) false)) c.in-Some.limit c.args.self.now refl
    (λ said book. refl) (λ said. refl) (sym c.full_nodes.ensures ∙ c.in-Some.is)

pub count_nodes-requires : goal.count_nodes-requires
count_nodes-requires g c = (has_nodes c.args.self.now 1 (sym c.full_nodes.ensures ∙ c.in_default.is)).nodes_fit

pub returns-then-not-is_live : goal.returns-then-not-is_live
returns-then-not-is_live g c =
    subst (λ new. Serves c.args.number (asked.Write c.args.command c.args.path (file_sum (digest_of c.args.bytes.items) false)) reply.NotLive c.args.self.now new)
    (sym c.count_nodes.ensures)
    (refused_serves c.args.number 1 _ (asked.Write c.args.command c.args.path (file_sum (digest_of c.args.bytes.items) false)) c.args.self.now
    (sym c.full_nodes.ensures ∙ c.in_default.is) (λ said book. refl) (λ said. refl)
    (λ context. write_refused c.args.number c.args.command c.args.path (file_sum (digest_of c.args.bytes.items) false) c.args.self.now context
    (sym c.is_live.ensures ∙ c.if-not-is_live.true)) refl)

pub returns-in-Some-lying_row : goal.returns-in-Some-lying_row
returns-in-Some-lying_row g c =
    let sum = file_sum (digest_of c.args.bytes.items) false in
    let same : c.in-Ok.tree ≡ written_tree sum =
    c.in-Ok.ensures ∙ ap (λ b. written_tree (file_sum (digest_of b) false)) c.as_slice.ensures.value in
    c.keep_bytes.ensures (asked.Write c.args.command c.args.path sum)
    (subst (λ t. IsWriting (asked.Write c.args.command c.args.path sum) c.args.number c.args.command c.args.path t (method.Write c.of.result) c.args.self.now)
    (sym same)
    (write_writing c.args.number c.args.command c.args.path sum c.of.result c.args.self.now (sym c.is_live.ensures ∙ c.if-not-is_live.false)
    (ap digest_of (sym c.of.ensures))))

pub returns-in-None : goal.returns-in-None
returns-in-None g c =
    let sum = file_sum (digest_of c.args.bytes.items) false in
    let same : c.in-Ok.tree ≡ written_tree sum =
    c.in-Ok.ensures ∙ ap (λ b. written_tree (file_sum (digest_of b) false)) c.as_slice.ensures.value in
    c.declare.ensures (asked.Write c.args.command c.args.path sum)
    (subst (λ t. IsDeclaring (asked.Write c.args.command c.args.path sum) c.args.number c.args.command c.args.path t (method.Write c.of.result) c.args.self.now)
    (sym same)
    (write_declaring c.args.number c.args.command c.args.path sum c.of.result c.args.self.now (ruled_apart c.args.number c.args.self.now c.requires)
    (sym c.is_live.ensures ∙ c.if-not-is_live.false)
    (subst (λ t. find (lies_equal c.args.path t) c.args.self.now.rows ≡ None) same
    (lying_absent c.args.path c.in-Ok.tree c.args.self.now.rows (sym c.in-None.ensures)))
    (ap digest_of (sym c.of.ensures))))
