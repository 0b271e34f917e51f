-- The act that comes next.
use Rattle.std.proofs.Common.{◌≡◌, ℕ, Bool, List, [], ◌∷◌, ◌++◌, map, refl, sym, ◌∙◌, subst, append_assoc}
use Rattle.std.proofs.lemmas.List.{append-nil}
use Rattle.mat_tree.specs.declared.flat.Flat.{Flat}
use Rattle.mat_tree.specs.declared.flat.What.{What}
use Rattle.mat_tree.specs.declared.flat.What.TheVariants as what
use Rattle.write_plan.specs.Plans.{act_of, act_what, supply_of}
use Rattle.write_plan.specs.declared.act.Act.{Act}
use Rattle.write_plan.specs.declared.act.Act.TheVariants as act
use Rattle.write_plan.specs.declared.method.Method.{Method}
use Rattle.job_run.specs.Growing.{dir_node, file_node, link_node}
use Rattle.job_run.specs.Orders.{Remains}

-- what an act says of the node behind some others, and of what is left behind it
abbrev pub NextIs : List Flat → Method → Bool → List Flat → List Act → Act → Type 0
NextIs tree way lent nodes rest act.Wipe = ⊥
NextIs tree way lent nodes rest (act.Dir rel) = Remains tree way lent rest (nodes ++ dir_node rel ∷ [])
NextIs tree way lent nodes rest (act.Link rel target) = Remains tree way lent rest (nodes ++ link_node rel target ∷ [])
NextIs tree way lent nodes rest (act.File rel digest exec from) =
    Remains tree way lent rest (nodes ++ file_node rel digest exec ∷ []) × (from ≡ supply_of way lent rel digest)
NextIs tree way lent nodes rest act.Sync = tree ≡ nodes

pub next_is : (tree : List Flat) (way : Method) (lent : Bool) (nodes : List Flat) (one : Act) (rest : List Act) →
    Remains tree way lent (one ∷ rest) nodes → NextIs tree way lent nodes rest one
next_is tree way lent nodes one rest remains = by remains.back remains.nodes remains.acts
  where
    node_next : (rel : List (List ℕ)) (w : What) (back : List Flat) → tree ≡ nodes ++ (record { rel = rel; what = w }) ∷ back →
        rest ≡ map (act_of way lent) back ++ act.Sync ∷ [] → NextIs tree way lent nodes rest (act_what way lent rel w)
    node_next rel what.Dir back is left = record { back = back; nodes = is ∙ sym (append_assoc nodes (dir_node rel ∷ []) back); acts = left }
    node_next rel (what.Link target) back is left =
        record { back = back; nodes = is ∙ sym (append_assoc nodes (link_node rel target ∷ []) back); acts = left }
    node_next rel (what.File digest exec) back is left =
        (record { back = back; nodes = is ∙ sym (append_assoc nodes (file_node rel digest exec ∷ []) back); acts = left }, refl)

    by : (back : List Flat) → tree ≡ nodes ++ back → one ∷ rest ≡ map (act_of way lent) back ++ act.Sync ∷ [] → NextIs tree way lent nodes rest one
    by [] is left =
        let last : one ≡ act.Sync = cc in
        subst (λ (a : Act). NextIs tree way lent nodes rest a) (sym last) (is ∙ append-nil nodes)
    by (node ∷ back) is left =
        let first : one ≡ act_of way lent node = cc in
        let others : rest ≡ map (act_of way lent) back ++ act.Sync ∷ [] = cc in
        subst (λ (a : Act). NextIs tree way lent nodes rest a) (sym first) (node_next node.rel node.what back is others)

-- the same of acts that were told as one and the others
pub told_next : (tree : List Flat) (way : Method) (lent : Bool) (nodes : List Flat) (acts : List Act) (one : Act) (rest : List Act) →
    acts ≡ one ∷ rest → Remains tree way lent acts nodes → NextIs tree way lent nodes rest one
told_next tree way lent nodes acts one rest is remains =
    next_is tree way lent nodes one rest (subst (λ (l : List Act). Remains tree way lent l nodes) is remains)
