use Rattle.std.proofs.Common.{◌≡◌, ℕ, ◌+◌, List, ◌++◌, length, codes, false, sym, subst, ap, ◌∙◌, arith}
use Rattle.buckd.specs.Daemon.{book_of}
use Rattle.buckd.specs.Run.{asked_of, is_not_yet}
use Rattle.buckd.specs.Sound.{IsPast}
use Rattle.mat_tree.proofs.Joins.{on_ok}
use Rattle.buckd.proofs.Kept.{told-request, sound-stepped}
use Rattle.buckd.proofs.daemon.Daemon.tell_request.Goals as goal

pub returns-clause-told : goal.returns-clause-told
returns-clause-told c =
    let count = length c.args.self.now.history.items in
    let number : 0 + count ≡ count = omega arith in
    let past : IsPast (0 + count) c.args.self.now = subst (λ (n : ℕ). IsPast n c.args.self.now) (sym number) c.requires.sound.past in
    let served : is_not_yet c.args.request (book_of c.args.self.now) ≡ false = sym c.is_not_yet.ensures ∙ c.if-is_not_yet.false in
    on_ok c.push_text.result
    (λ text. told-request c.args.request c.args.self.now c.serve.new.self c.in_ok-reply.reply c.args.out.now.items
    c.push_text.new.out.items served c.in_ok-reply.ensures.served (c.in_ok-reply.ensures.past (0 + count) past)
    (text ∙ ap (λ (t : List ℕ). t ++ codes "\n") c.in_ok-push_reply.ensures.ok))
    c.push_text.ensures.ok

pub returns-clause-sound : goal.returns-clause-sound
returns-clause-sound c =
    on_ok c.push_text.result
    (λ text. sound-stepped (asked_of c.args.request) c.args.self.now c.serve.new.self c.in_ok-reply.reply
    c.in_ok-reply.ensures.served c.in_ok-reply.ensures.kept
    (c.in_ok-reply.ensures.past (length c.args.self.now.history.items) c.requires.sound.past))
    c.push_text.ensures.ok
