use Rattle.std.proofs.Common.{rules, ◌≡◌, ◌∙◌, ◌+◌, false, length, sym, subst}
use Rattle.std.specs.Vec.{vec_len}
use Rattle.mat_digest.specs.Digests.{digest_of}
use Rattle.mat_tree.specs.Trees.{file_sum}
use Rattle.mat_model.specs.declared.requests.Asked.TheVariants as asked
use Rattle.mat_model.specs.Books.{IsBook}
use Rattle.mat_core.specs.Asks.{request_asks}
use Rattle.mat_core.specs.Books.{book_in}
use Rattle.mat_core.specs.Replacing.{AreRuled}
use Rattle.mat_core.specs.Served.{Serves}
use Rattle.mat_core.proofs.ReplaceLemmas.{ruled_book}
use Rattle.mat_core.proofs.parts.Parts.serve.Goals as goal

pub returns-in-Enter-clause-served : goal.returns-in-Enter-clause-served
returns-in-Enter-clause-served g c =
    let size : vec_len c.args.self.now.history ≡ length c.args.self.now.history.items = search rules in
    subst (λ r. Serves (c.args.self.now.first + length c.args.self.now.history.items) (request_asks r) c.serve_enter.result c.args.self.now
    c.serve_enter.new.self) (sym c.in-Enter.is)
    (subst (λ n. Serves (c.args.self.now.first + n)
    (asked.Enter c.in-Enter.command c.in-Enter.state c.in-Enter.soft c.in-Enter.refuse) c.serve_enter.result c.args.self.now
    c.serve_enter.new.self) (c.len.ensures ∙ size) c.serve_enter.ensures.served)

pub returns-in-Leave-clause-served : goal.returns-in-Leave-clause-served
returns-in-Leave-clause-served g c =
    subst (λ r. Serves (c.args.self.now.first + length c.args.self.now.history.items) (request_asks r) c.serve_leave.result c.args.self.now
    c.serve_leave.new.self) (sym c.in-Leave.is) (c.serve_leave.ensures.served (c.args.self.now.first + length c.args.self.now.history.items))

pub returns-in_default-clause-served : goal.returns-in_default-clause-served
returns-in_default-clause-served g c =
    c.want.ensures (c.args.self.now.first + length c.args.self.now.history.items) (request_asks c.args.request)

pub returns-in-Matches-clause-served : goal.returns-in-Matches-clause-served
returns-in-Matches-clause-served g c =
    subst (λ r. Serves (c.args.self.now.first + length c.args.self.now.history.items) (request_asks r) c.serve_matches.result c.args.self.now
    c.serve_matches.new.self) (sym c.in-Matches.is) (c.serve_matches.ensures (c.args.self.now.first + length c.args.self.now.history.items))

pub returns-in-Has-clause-served : goal.returns-in-Has-clause-served
returns-in-Has-clause-served g c =
    subst (λ r. Serves (c.args.self.now.first + length c.args.self.now.history.items) (request_asks r) c.serve_has.result c.args.self.now c.args.self.now)
    (sym c.in-Has.is) (c.serve_has.ensures (c.args.self.now.first + length c.args.self.now.history.items))

pub returns-in-Ensure-clause-served : goal.returns-in-Ensure-clause-served
returns-in-Ensure-clause-served g c =
    let size : vec_len c.args.self.now.history ≡ length c.args.self.now.history.items = search rules in
    subst (λ r. Serves (c.args.self.now.first + length c.args.self.now.history.items) (request_asks r) c.serve_ensure.result c.args.self.now
    c.serve_ensure.new.self) (sym c.in-Ensure.is)
    (subst (λ n. Serves (c.args.self.now.first + n) (asked.Ensure c.in-Ensure.command c.in-Ensure.path) c.serve_ensure.result c.args.self.now
    c.serve_ensure.new.self) (c.len.ensures ∙ size) c.serve_ensure.ensures)

pub serve_ensure-requires : goal.serve_ensure-requires
serve_ensure-requires g c =
    let size : vec_len c.args.self.now.history ≡ length c.args.self.now.history.items = search rules in
    subst (λ n. IsBook (c.args.self.now.first + n) (book_in c.args.self.now)) (sym (c.len.ensures ∙ size))
    (ruled_book (c.args.self.now.first + length c.args.self.now.history.items) c.args.self.now c.requires.rules)

pub returns-in-Declare-clause-served : goal.returns-in-Declare-clause-served
returns-in-Declare-clause-served g c =
    let size : vec_len c.args.self.now.history ≡ length c.args.self.now.history.items = search rules in
    subst (λ r. Serves (c.args.self.now.first + length c.args.self.now.history.items) (request_asks r) c.serve_declare.result c.args.self.now
    c.serve_declare.new.self) (sym c.in-Declare.is)
    (subst (λ n. Serves (c.args.self.now.first + n) (asked.Declare c.in-Declare.command c.in-Declare.path c.in-Declare.tree) c.serve_declare.result
    c.args.self.now c.serve_declare.new.self) (c.len.ensures ∙ size) c.serve_declare.ensures)

pub serve_declare-requires : goal.serve_declare-requires
serve_declare-requires g c =
    let size : vec_len c.args.self.now.history ≡ length c.args.self.now.history.items = search rules in
    subst (λ n. AreRuled (c.args.self.now.first + n) c.args.self.now) (sym (c.len.ensures ∙ size)) c.requires.rules

pub returns-in-Write-clause-served : goal.returns-in-Write-clause-served
returns-in-Write-clause-served g c =
    let size : vec_len c.args.self.now.history ≡ length c.args.self.now.history.items = search rules in
    subst (λ r. Serves (c.args.self.now.first + length c.args.self.now.history.items) (request_asks r) c.serve_write.result c.args.self.now
    c.serve_write.new.self) (sym c.in-Write.is)
    (subst (λ b. Serves (c.args.self.now.first + length c.args.self.now.history.items)
    (asked.Write c.in-Write.command c.in-Write.path (file_sum (digest_of b) false)) c.serve_write.result c.args.self.now c.serve_write.new.self)
    c.into_vec.ensures
    (subst (λ n. Serves (c.args.self.now.first + n)
    (asked.Write c.in-Write.command c.in-Write.path (file_sum (digest_of c.into_vec.result.items) false)) c.serve_write.result c.args.self.now
    c.serve_write.new.self) (c.len.ensures ∙ size) c.serve_write.ensures))

pub serve_write-requires : goal.serve_write-requires
serve_write-requires g c =
    let size : vec_len c.args.self.now.history ≡ length c.args.self.now.history.items = search rules in
    subst (λ n. AreRuled (c.args.self.now.first + n) c.args.self.now) (sym (c.len.ensures ∙ size)) c.requires.rules

pub returns-in-Copy-clause-served : goal.returns-in-Copy-clause-served
returns-in-Copy-clause-served g c =
    let size : vec_len c.args.self.now.history ≡ length c.args.self.now.history.items = search rules in
    subst (λ r. Serves (c.args.self.now.first + length c.args.self.now.history.items) (request_asks r) c.serve_copy.result c.args.self.now
    c.serve_copy.new.self) (sym c.in-Copy.is)
    (subst (λ n. Serves (c.args.self.now.first + n) (asked.Copy c.in-Copy.command c.in-Copy.path c.in-Copy.source) c.serve_copy.result
    c.args.self.now c.serve_copy.new.self) (c.len.ensures ∙ size) c.serve_copy.ensures)

pub serve_copy-requires : goal.serve_copy-requires
serve_copy-requires g c =
    let size : vec_len c.args.self.now.history ≡ length c.args.self.now.history.items = search rules in
    subst (λ n. AreRuled (c.args.self.now.first + n) c.args.self.now) (sym (c.len.ensures ∙ size)) c.requires.rules
