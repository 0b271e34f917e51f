-- What puts lead to.
use Rattle.std.proofs.Common.{◌≡◌, ◌≤◌, ◌<◌, ◌+◌, ◌-◌, ℕ, true, List, [], ◌∷◌, ◌++◌, length, take, drop, Option, Some, None, refl, sym, ap, ◌∙◌, subst, arith, append_assoc, min}
use Rattle.std.proofs.Math.Seq.{take-append_seam}
use Rattle.std.proofs.lemmas.List.{length-append, length-drop, length-take, length-take-le, take-append-drop, take_all}
use Rattle.std.specs.Option.{ForSome, option_map}
use Rattle.mat_digest.specs.Digests.{digest_of}
use Rattle.mat_digest.specs.declared.digest.Digest.{Digest}
use Rattle.mat_model.specs.declared.entries.Outcome.{Outcome}
use Rattle.mat_model.specs.declared.entries.Outcome.TheVariants as outcome
use Rattle.mat_model.specs.declared.answers.FaultNote.{FaultNote}
use Rattle.mat_path.specs.Names.{is_path}
use Rattle.mat_tree.specs.Parts.{Part, folder, link, with_node}
use Rattle.mat_tree.specs.Trees.{is_placed}
use Rattle.mat_tree.specs.declared.flat.Flat.{Flat}
use Rattle.job_run.specs.Failures.{Changes, IsDiskFailure, IsDiskWhy}
use Rattle.job_run.specs.Growing.{Grows, HasNodes, dir_node, link_node, with_piece}
use Rattle.job_run.specs.Orders.{IsLeft, IsMakeable, file_cost, held_bytes}
use Rattle.job_run.specs.Pieces.{most_bytes}
use Rattle.region_port.specs.declared.port.Region.{Ghosts}
use Rattle.job_run.specs.Steps.{CallsPart}
use Rattle.job_run.specs.declared.states.State.{State}
use Rattle.job_run.specs.Stages.{IsBehind, IsMaking, filing_node, filling_cost}
use Rattle.job_run.specs.declared.states.Doing.TheVariants as doing
use Rattle.job_run.specs.declared.states.Filing.{Filing}
use Rattle.job_run.specs.declared.states.Filling.TheVariants as filling
use Rattle.job_run.specs.declared.reading.Reading.{Reading}
use Rattle.job_run.specs.declared.states.Order.{Order}
use Rattle.job_run.specs.declared.states.Source.{Source}
use Rattle.std.specs.declared.vec.Vec.{Vec}
use Rattle.std.specs.declared.alloc.Global.{Global}
use Rattle.job_run.proofs.DigestLemmas.{digest_of-size}
use Rattle.job_run.proofs.Beginnings.{node_ascends, node_passes}
use Rattle.job_run.proofs.Grown.{file_placed, grown, node_placed}

-- the failure of a call on the disk is one of the disk
pub disk_why : (before after : ℕ) (failure : Option Outcome) → IsDiskFailure before after failure → IsDiskWhy failure
disk_why before after None is = tt
disk_why before after (Some outcome.Made) is = is
disk_why before after (Some outcome.Wiped) is = is
disk_why before after (Some (outcome.Missing digest)) is = is
disk_why before after (Some (outcome.Corrupt wanted found)) is = is
disk_why before after (Some (outcome.Fault note)) is = ap (λ (n : FaultNote). n.device) is.0
disk_why before after (Some outcome.NoMemory) is = tt

-- a fact of a region and a failure, as a state tells them
pub told_so : {R : Type 0} (P : R → Option Outcome → Type 0) (o : Option R) (next : R) (failure told : Option Outcome) → o ≡ Some next → told ≡ failure →
    P next failure → ForSome o (λ now. P now told)
told_so {R} P o next failure told is same has = λ now is_now.
    let one : next ≡ now = cc in
    subst (λ (r : R). P r told) one (subst (λ (f : Option Outcome). P next f) (sym same) has)

-- the order of a make that is behind a node
behind : (place : List (List ℕ)) (new : Option Part) (order : Order) (nodes : List Flat) (node : Flat) → IsMakeable place order.tree order.method →
    IsLeft order (nodes ++ node ∷ []) → HasNodes (nodes ++ node ∷ []) new → IsBehind place new order
behind place new order nodes node makeable left has = record { makeable = makeable; nodes = nodes ++ node ∷ []; left = left; has = has }

-- the path of a node that is put
pub node_path : (place : List (List ℕ)) (order : Order) (nodes : List Flat) (node : Flat) → IsMakeable place order.tree order.method →
    IsLeft order (nodes ++ node ∷ []) → is_path (place ++ node.rel) ≡ true
node_path place order nodes node makeable left =
    node_passes (is_placed place) order.tree order.method order.lent order.left.items nodes node left makeable.places

-- a node that isn't a file was put
pub dir_put : (place here : List (List ℕ)) (old new : Option Part) (order : Order) (rel : List (List ℕ)) (failure : Option Outcome) → here ≡ place →
    IsMaking place old order (doing.Dir rel) → Changes (with_node rel folder) failure old new → failure ≡ None → IsBehind here new order
dir_put place here old new order rel failure same m changes none =
    let now : new ≡ option_map (with_node rel folder) old = subst (λ (f : Option Outcome). Changes (with_node rel folder) f old new) none changes in
    subst (λ (p : List (List ℕ)). IsBehind p new order) (sym same)
    (behind place new order m.nodes (dir_node rel) m.makeable m.at.0
    (node_placed m.nodes (dir_node rel) m.at.0.back folder old new
    (node_ascends order.tree order.method order.lent order.left.items m.nodes (dir_node rel) m.at.0 m.makeable.order) refl m.at.1 now))

pub link_put : (place here : List (List ℕ)) (old new : Option Part) (order : Order) (rel : List (List ℕ)) (target : List ℕ) (failure : Option Outcome) → here ≡ place →
    IsMaking place old order (doing.Link rel target) → Changes (with_node rel (link target)) failure old new → failure ≡ None → IsBehind here new order
link_put place here old new order rel target failure same m changes none =
    let now : new ≡ option_map (with_node rel (link target)) old = subst (λ (f : Option Outcome). Changes (with_node rel (link target)) f old new) none changes in
    subst (λ (p : List (List ℕ)). IsBehind p new order) (sym same)
    (behind place new order m.nodes (link_node rel target) m.makeable m.at.0
    (node_placed m.nodes (link_node rel target) m.at.0.back (link target) old new
    (node_ascends order.tree order.method order.lent order.left.items m.nodes (link_node rel target) m.at.0 m.makeable.order) refl m.at.1 now))

-- the last piece of a file was put
last_put : (place here : List (List ℕ)) (old new : Option Part) (order : Order) (filing : Filing) (nodes : List Flat) (given piece : List ℕ) (at : ℕ) (failure : Option Outcome) →
    here ≡ place → IsMakeable place order.tree order.method → IsLeft order (nodes ++ filing_node filing ∷ []) → Grows filing.rel filing.exec nodes given old →
    at ≡ length given → digest_of (given ++ piece) ≡ filing.digest → Changes (with_piece filing.rel filing.exec at piece) failure old new → failure ≡ None →
    IsBehind here new order
last_put place here old new order filing nodes given piece at failure same makeable left grows offset right changes none =
    let now : new ≡ option_map (with_piece filing.rel filing.exec at piece) old =
    subst (λ (f : Option Outcome). Changes (with_piece filing.rel filing.exec at piece) f old new) none changes in
    subst (λ (p : List (List ℕ)). IsBehind p new order) (sym same)
    (behind place new order nodes (filing_node filing) makeable left
    (file_placed filing.rel filing.digest filing.exec nodes left.back given piece at old new
    (node_ascends order.tree order.method order.lent order.left.items nodes (filing_node filing) left makeable.order) grows offset now right))

-- another piece was put
piece_put : (old new : Option Part) (filing : Filing) (nodes : List Flat) (given piece : List ℕ) (at : ℕ) (failure : Option Outcome) →
    Grows filing.rel filing.exec nodes given old → at ≡ length given → Changes (with_piece filing.rel filing.exec at piece) failure old new → failure ≡ None →
    Grows filing.rel filing.exec nodes (given ++ piece) new
piece_put old new filing nodes given piece at failure grows offset changes none =
    grown filing.rel filing.exec nodes given piece at old new grows offset
    (subst (λ (f : Option Outcome). Changes (with_piece filing.rel filing.exec at piece) f old new) none changes)

-- ---- held bytes

-- the bytes before an offset and the piece behind it
front_and_piece : (bytes : List ℕ) (at : ℕ) → at ≤ length bytes → take at bytes ++ take most_bytes (drop at bytes) ≡ take (at + length (take most_bytes (drop at bytes))) bytes
front_and_piece bytes at within =
    sym (ap (λ (n : ℕ). take n bytes) (sym long) ∙ ap (λ (l : List ℕ). take (length (front ++ piece)) l) (sym whole) ∙ take-append_seam (front ++ piece) rest)
  where
    front : List ℕ
    front = take at bytes

    piece : List ℕ
    piece = take most_bytes (drop at bytes)

    rest : List ℕ
    rest = drop most_bytes (drop at bytes)

    whole : (front ++ piece) ++ rest ≡ bytes
    whole =
        append_assoc front piece rest ∙ ap (λ (l : List ℕ). front ++ l) (take-append-drop most_bytes (drop at bytes)) ∙ take-append-drop at bytes

    long : length (front ++ piece) ≡ at + length piece
    long = length-append front piece ∙ ap (λ (n : ℕ). n + length piece) (length-take-le at bytes within)

-- how long a piece of held bytes is
pub piece_length : (bytes piece : List ℕ) (at : ℕ) → piece ≡ take most_bytes (drop at bytes) → length piece ≡ min most_bytes (length bytes - at)
piece_length bytes piece at is = ap length is ∙ length-take most_bytes (drop at bytes) ∙ ap (min most_bytes) (length-drop at bytes)

piece_within : (bytes piece : List ℕ) (at : ℕ) → at ≤ length bytes → piece ≡ take most_bytes (drop at bytes) → at + length piece ≤ length bytes
piece_within bytes piece at within is =
    let long : length piece ≡ min most_bytes (length bytes - at) = piece_length bytes piece at is in omega arith

-- the size of a digest
pub size_is : (bytes : List ℕ) (digest : Digest) → digest_of bytes ≡ digest → digest.size ≡ length bytes
size_is bytes digest is = sym (ap (λ (d : Digest). d.size) is) ∙ digest_of-size bytes

-- behind a piece of held bytes that isn't the last fewer calls are left
pub held_less : (place : List (List ℕ)) (part : Option Part) (order : Order) (filing : Filing) (at : ℕ) (piece : List ℕ) →
    IsMaking place part order (doing.File filing (filling.Held at)) → piece ≡ take most_bytes (drop at (held_bytes order.method)) →
    (at + length piece ≡ length (held_bytes order.method) → ⊥) → file_cost filing.digest.size (at + length piece) < file_cost filing.digest.size at
held_less place part order filing at piece m is more =
    let within : at ≤ length (held_bytes order.method) = m.at.1.within in
    let size : filing.digest.size ≡ length (held_bytes order.method) = size_is (held_bytes order.method) filing.digest m.at.1.right in
    let long : length piece ≡ min most_bytes (length (held_bytes order.method) - at) = piece_length (held_bytes order.method) piece at is in
    omega arith

-- the last piece of held bytes was put
pub held_last : (place here : List (List ℕ)) (old new : Option Part) (order : Order) (filing : Filing) (at : ℕ) (piece : List ℕ) (failure : Option Outcome) → here ≡ place →
    IsMaking place old order (doing.File filing (filling.Held at)) → piece ≡ take most_bytes (drop at (held_bytes order.method)) →
    at + length piece ≡ length (held_bytes order.method) → Changes (with_piece filing.rel filing.exec at piece) failure old new → failure ≡ None → IsBehind here new order
held_last place here old new order filing at piece failure same m is over changes none =
    let h = m.at.1 in
    last_put place here old new order filing m.nodes (take at (held_bytes order.method)) piece at failure same m.makeable m.at.0 h.grows
    (sym (length-take-le at (held_bytes order.method) h.within)) (ap digest_of whole ∙ h.right) changes none
  where
    bytes : List ℕ
    bytes = held_bytes order.method

    whole : take at bytes ++ piece ≡ bytes
    whole =
        ap (λ (p : List ℕ). take at bytes ++ p) is ∙ front_and_piece bytes at m.at.1.within
        ∙ ap (λ (p : List ℕ). take (at + length p) bytes) (sym is) ∙ ap (λ (n : ℕ). take n bytes) over ∙ take_all (length bytes) bytes (omega arith)

-- another piece of held bytes was put
pub held_more : (place here : List (List ℕ)) (old new : Option Part) (order : Order) (filing : Filing) (at : ℕ) (piece : List ℕ) (failure : Option Outcome) → here ≡ place →
    IsMaking place old order (doing.File filing (filling.Held at)) → piece ≡ take most_bytes (drop at (held_bytes order.method)) →
    Changes (with_piece filing.rel filing.exec at piece) failure old new → failure ≡ None →
    IsMaking here new order (doing.File filing (filling.Held (at + length piece)))
held_more place here old new order filing at piece failure same m is changes none =
    subst (λ (p : List (List ℕ)). IsMaking p new order (doing.File filing (filling.Held (at + length piece)))) (sym same)
    (record { makeable = m.makeable; nodes = m.nodes; at = (m.at.0, record { within = within; right = m.at.1.right; grows = grows }) })
  where
    bytes : List ℕ
    bytes = held_bytes order.method

    within : at + length piece ≤ length bytes
    within = piece_within bytes piece at m.at.1.within is

    grows : Grows filing.rel filing.exec m.nodes (take (at + length piece) bytes) new
    grows =
        subst (λ (l : List ℕ). Grows filing.rel filing.exec m.nodes l new)
        (ap (λ (p : List ℕ). take at bytes ++ p) is ∙ front_and_piece bytes at m.at.1.within ∙ ap (λ (p : List ℕ). take (at + length p) bytes) (sym is))
        (piece_put old new filing m.nodes (take at bytes) piece at failure m.at.1.grows (sym (length-take-le at bytes m.at.1.within)) changes none)

-- ---- pieces that were read

pub got_last : (place here : List (List ℕ)) (old new : Option Part) (order : Order) (filing : Filing) (from : Source) (at : ℕ) (piece : Vec ℕ Global) (failure : Option Outcome) → here ≡ place →
    IsMaking place old order (doing.File filing (filling.Got from at piece None)) → Changes (with_piece filing.rel filing.exec at piece.items) failure old new → failure ≡ None →
    IsBehind here new order
got_last place here old new order filing from at piece failure same m changes none =
    let h = m.at.1 in
    last_put place here old new order filing m.nodes h.given piece.items at failure same m.makeable m.at.0 h.grows h.offset h.follows changes none

pub got_more : (place here : List (List ℕ)) (old new : Option Part) (order : Order) (filing : Filing) (from : Source) (at : ℕ) (piece : Vec ℕ Global) (reading : Reading) (failure : Option Outcome) → here ≡ place →
    IsMaking place old order (doing.File filing (filling.Got from at piece (Some reading))) → Changes (with_piece filing.rel filing.exec at piece.items) failure old new → failure ≡ None →
    IsMaking here new order (doing.File filing (filling.Due from reading))
got_more place here old new order filing from at piece reading failure same m changes none =
    let h = m.at.1 in
    subst (λ (p : List (List ℕ)). IsMaking p new order (doing.File filing (filling.Due from reading))) (sym same)
    (record {
      makeable = m.makeable;
      nodes = m.nodes;
      at = (
        m.at.0,
        record {
          given = h.given ++ piece.items;
          has = h.follows.0;
          within = h.follows.2;
          grows = piece_put old new filing m.nodes h.given piece.items at failure h.grows h.offset changes none;
          source = h.source;
          some = h.some;
        },
      );
    })

-- behind a piece that was read and isn't the last fewer calls are left
pub got_less : (place : List (List ℕ)) (part : Option Part) (order : Order) (filing : Filing) (from : Source) (at : ℕ) (piece : Vec ℕ Global) (reading : Reading) →
    IsMaking place part order (doing.File filing (filling.Got from at piece (Some reading))) →
    filling_cost filing.digest.size (filling.Due from reading) < filling_cost filing.digest.size (filling.Got from at piece (Some reading))
got_less place part order filing from at piece reading m =
    let h = m.at.1 in
    let here : reading.at ≡ length (h.given ++ piece.items) = h.follows.0.at in
    let long : length (h.given ++ piece.items) ≡ length h.given + length piece.items = length-append h.given piece.items in
    let offset : at ≡ length h.given = h.offset in
    let whole : length piece.items ≡ most_bytes = h.follows.1 in
    let within : length (h.given ++ piece.items) ≤ filing.digest.size = h.follows.2 in
    omega arith

-- ---- calls of a stage

pub called_from : {R : Type 0} {g : Ghosts R} (o : Option R) (region : R) (s : State R g) → o ≡ Some region → CallsPart region s → ForSome o (λ (before : R). CallsPart before s)
called_from {R} {g} o region s is calls = λ before told.
    let same : region ≡ before = cc in
    subst (λ (r : R). CallsPart {g = g} r s) same calls
