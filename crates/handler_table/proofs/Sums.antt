-- Sizes of parts, and of behaviours that keep their cH.
use Rattle.std.proofs.Common.{◌≡◌, ℕ, suc, ◌+◌, max, nat_le, List, [], ◌∷◌, ◌++◌, Option, Some, None, refl, ap, ◌∙◌, arith}
use Rattle.std.proofs.lemmas.Bool.Decides.{nat_tests}
use Rattle.behaviour_tree.specs.Data.{PathTree, Proc, Procs, no_procs, proc, Branches, no_branches, one_way, request, nothing, sequence, parallel, choose, repeat, choice, scope, block}
use Rattle.behaviour_tree.specs.View.{BranchView, HandlerView, ReplyView, branch_of, branches_of, handlers_of, procs_of}
use Rattle.session_calculus.specs.Tables.{filled, filled_all, filled_branches, forms, levels}
use Rattle.handler_table.specs.declared.size.Size.{Size}
use Rattle.handler_table.specs.Sizes.{forms_of, forms_of_branches, forms_of_handlers, levels_of, levels_of_branches, levels_of_handlers}
use Rattle.handler_table.specs.Sizes.{saturated, sized, size_of, size_of_all, size_of_branches, size_of_handlers, beside, around}

-- ---- sizes

sum_saturated : (a b : ℕ) → saturated (saturated a + saturated b) ≡ saturated (a + b)
sum_saturated a b = omega arith

max_saturated : (a b : ℕ) → max (saturated a) (saturated b) ≡ saturated (max a b)
max_saturated a b = omega arith

suc_saturated : (a : ℕ) → saturated (saturated a + 1) ≡ saturated (suc a)
suc_saturated a = omega arith

-- equal numbers make equal sizes
same_size : (a b c d : ℕ) → a ≡ b → c ≡ d → sized a c ≡ sized b d
same_size a b c d e f = ap (λ n. sized n c) e ∙ ap (λ n. sized b n) f

-- two sizes beside each other
pub joined : (a b c d : ℕ) → beside (sized a c) (sized b d) ≡ sized (a + b) (max c d)
joined a b c d =
    let size : ℕ → ℕ → Size = λ m n. record { forms = m; levels = n } in
    ap (λ n. size n (max (saturated c) (saturated d))) (sum_saturated a b) ∙ ap (size (saturated (a + b))) (max_saturated c d)

-- a form around parts
pub wrapped : (a c : ℕ) → around (sized a c) ≡ sized (suc a) (suc c)
wrapped a c =
    let size : ℕ → ℕ → Size = λ m n. record { forms = m; levels = n } in
    ap (λ n. size n (saturated (saturated c + 1))) (suc_saturated a) ∙ ap (size (saturated (suc a))) (suc_saturated c)

-- ---- one more of a list

forms_more : (o : Proc) (ps : List Proc) (p : Proc)
    → forms_of (filled_all o (procs_of ps)) + forms (filled o p) ≡ forms_of (filled_all o (procs_of (ps ++ p ∷ [])))
forms_more o [] p = omega arith
forms_more o (q ∷ ps) p = let e = forms_more o ps p in omega (arith, e)

levels_more : (o : Proc) (ps : List Proc) (p : Proc)
    → max (levels_of (filled_all o (procs_of ps))) (levels (filled o p)) ≡ levels_of (filled_all o (procs_of (ps ++ p ∷ [])))
levels_more o [] p = omega arith
levels_more o (q ∷ ps) p = let e = levels_more o ps p in omega (arith, e)

pub all_more : (o : Proc) (ps : List Proc) (p : Proc)
    → beside (size_of_all (filled_all o (procs_of ps))) (size_of (filled o p)) ≡ size_of_all (filled_all o (procs_of (ps ++ p ∷ [])))
all_more o ps p =
    joined (forms_of (filled_all o (procs_of ps))) (forms (filled o p)) (levels_of (filled_all o (procs_of ps))) (levels (filled o p))
    ∙ same_size _ _ _ _ (forms_more o ps p) (levels_more o ps p)

-- one branch before others
forms_branch : (o : Proc) (op : ℕ) (x : Option PathTree) (r : Option ReplyView) (p : Proc) (bs : Branches)
    → forms_of_branches (filled_branches o (branch_of op x r p bs))
    ≡ forms_of_branches (filled_branches o (branch_of op x r p no_branches)) + forms_of_branches (filled_branches o bs)
forms_branch o op x None p bs = omega arith
forms_branch o op x (Some r) p bs = omega arith

levels_branch : (o : Proc) (op : ℕ) (x : Option PathTree) (r : Option ReplyView) (p : Proc) (bs : Branches)
    → levels_of_branches (filled_branches o (branch_of op x r p bs))
    ≡ max (levels_of_branches (filled_branches o (branch_of op x r p no_branches))) (levels_of_branches (filled_branches o bs))
levels_branch o op x None p bs = omega arith
levels_branch o op x (Some r) p bs = omega arith

forms_branches_more : (o : Proc) (bs : List BranchView) (b : BranchView)
    → forms_of_branches (filled_branches o (branches_of bs)) + forms_of_branches (filled_branches o (branches_of (b ∷ [])))
    ≡ forms_of_branches (filled_branches o (branches_of (bs ++ b ∷ [])))
forms_branches_more o [] b = omega arith
forms_branches_more o (c ∷ bs) b =
    let e = forms_branches_more o bs b in
    let f = forms_branch o c.op c.target c.reply c.after (branches_of bs) in
    let g = forms_branch o c.op c.target c.reply c.after (branches_of (bs ++ b ∷ [])) in
    omega (arith, e, f, g)

levels_branches_more : (o : Proc) (bs : List BranchView) (b : BranchView)
    → max (levels_of_branches (filled_branches o (branches_of bs))) (levels_of_branches (filled_branches o (branches_of (b ∷ []))))
    ≡ levels_of_branches (filled_branches o (branches_of (bs ++ b ∷ [])))
levels_branches_more o [] b = omega arith
levels_branches_more o (c ∷ bs) b =
    let e = levels_branches_more o bs b in
    let f = levels_branch o c.op c.target c.reply c.after (branches_of bs) in
    let g = levels_branch o c.op c.target c.reply c.after (branches_of (bs ++ b ∷ [])) in
    omega (arith, e, f, g)

pub branches_more : (o : Proc) (bs : List BranchView) (b : BranchView)
    → beside (size_of_branches (filled_branches o (branches_of bs))) (size_of_branches (filled_branches o (branches_of (b ∷ []))))
    ≡ size_of_branches (filled_branches o (branches_of (bs ++ b ∷ [])))
branches_more o bs b =
    joined (forms_of_branches (filled_branches o (branches_of bs))) (forms_of_branches (filled_branches o (branches_of (b ∷ []))))
    (levels_of_branches (filled_branches o (branches_of bs))) (levels_of_branches (filled_branches o (branches_of (b ∷ []))))
    ∙ same_size _ _ _ _ (forms_branches_more o bs b) (levels_branches_more o bs b)

-- the size of one branch
pub one_branch : (o : Proc) (op : ℕ) (x : Option PathTree) (p : Proc)
    → size_of (filled o p) ≡ size_of_branches (filled_branches o (branches_of (record { op = op; target = x; reply = None; after = p } ∷ [])))
one_branch o op x p = same_size _ _ _ _ (omega arith) (omega arith)

pub one_request : (o : Proc) (op : ℕ) (x : Option PathTree) (r : ReplyView) (p : Proc)
    → beside (size_of (filled o r.body)) (size_of (filled o p))
    ≡ size_of_branches (filled_branches o (branches_of (record { op = op; target = x; reply = Some r; after = p } ∷ [])))
one_request o op x r p =
    joined (forms (filled o r.body)) (forms (filled o p)) (levels (filled o r.body)) (levels (filled o p))
    ∙ same_size _ _ _ _ (omega arith) (omega arith)

-- ---- behaviours with nothing in place of cH are as large as before

mutual
  forms_kept : (p : Proc) → forms (filled nothing p) ≡ forms p
  forms_kept (sequence ps) = ap suc (forms_all_kept ps)
  forms_kept (parallel ps) = ap suc (forms_all_kept ps)
  forms_kept (choose e p q) = let a = forms_kept p in let b = forms_kept q in omega (arith, a, b)
  forms_kept (repeat e p) = ap suc (forms_kept p)
  forms_kept (choice bs) = ap suc (forms_branches_kept bs)
  forms_kept (scope q p) = ap suc (forms_kept p)
  forms_kept (block p) = ap suc (forms_kept p)
  forms_kept p = refl

  forms_all_kept : (ps : Procs) → forms_of (filled_all nothing ps) ≡ forms_of ps
  forms_all_kept no_procs = refl
  forms_all_kept (proc p ps) = let a = forms_kept p in let b = forms_all_kept ps in omega (arith, a, b)

  forms_branches_kept : (bs : Branches) → forms_of_branches (filled_branches nothing bs) ≡ forms_of_branches bs
  forms_branches_kept no_branches = refl
  forms_branches_kept (one_way o x p bs) = let a = forms_kept p in let b = forms_branches_kept bs in omega (arith, a, b)
  forms_branches_kept (request o x y body p bs) =
      let a = forms_kept p in
      let b = forms_branches_kept bs in
      let c = forms_kept body in
      omega (arith, a, b, c)

mutual
  levels_kept : (p : Proc) → levels (filled nothing p) ≡ levels p
  levels_kept (sequence ps) = ap suc (levels_all_kept ps)
  levels_kept (parallel ps) = ap suc (levels_all_kept ps)
  levels_kept (choose e p q) = let a = levels_kept p in let b = levels_kept q in omega (arith, a, b)
  levels_kept (repeat e p) = ap suc (levels_kept p)
  levels_kept (choice bs) = ap suc (levels_branches_kept bs)
  levels_kept (scope q p) = ap suc (levels_kept p)
  levels_kept (block p) = ap suc (levels_kept p)
  levels_kept p = refl

  levels_all_kept : (ps : Procs) → levels_of (filled_all nothing ps) ≡ levels_of ps
  levels_all_kept no_procs = refl
  levels_all_kept (proc p ps) = let a = levels_kept p in let b = levels_all_kept ps in omega (arith, a, b)

  levels_branches_kept : (bs : Branches) → levels_of_branches (filled_branches nothing bs) ≡ levels_of_branches bs
  levels_branches_kept no_branches = refl
  levels_branches_kept (one_way o x p bs) = let a = levels_kept p in let b = levels_branches_kept bs in omega (arith, a, b)
  levels_branches_kept (request o x y body p bs) =
      let a = levels_kept p in
      let b = levels_branches_kept bs in
      let c = levels_kept body in
      omega (arith, a, b, c)

pub size_kept : (p : Proc) → size_of (filled nothing p) ≡ size_of p
size_kept p = same_size _ _ _ _ (forms_kept p) (levels_kept p)

-- ---- one more handler

forms_handlers_more : (hs : List HandlerView) (h : HandlerView)
    → forms_of_handlers (handlers_of hs) + forms h.body ≡ forms_of_handlers (handlers_of (hs ++ h ∷ []))
forms_handlers_more [] h = omega arith
forms_handlers_more (g ∷ hs) h = let e = forms_handlers_more hs h in omega (arith, e)

levels_handlers_more : (hs : List HandlerView) (h : HandlerView)
    → max (levels_of_handlers (handlers_of hs)) (levels h.body) ≡ levels_of_handlers (handlers_of (hs ++ h ∷ []))
levels_handlers_more [] h = omega arith
levels_handlers_more (g ∷ hs) h = let e = levels_handlers_more hs h in omega (arith, e)

pub handlers_more : (hs : List HandlerView) (h : HandlerView)
    → beside (size_of_handlers (handlers_of hs)) (size_of (filled nothing h.body)) ≡ size_of_handlers (handlers_of (hs ++ h ∷ []))
handlers_more hs h =
    ap (beside (size_of_handlers (handlers_of hs))) (size_kept h.body)
    ∙ joined (forms_of_handlers (handlers_of hs)) (forms h.body) (levels_of_handlers (handlers_of hs)) (levels h.body)
    ∙ same_size _ _ _ _ (forms_handlers_more hs h) (levels_handlers_more hs h)

-- ---- the limits

pub forms_within : (n : ℕ) → nat_le (saturated n) 65536 ≡ nat_le n 65536
forms_within n = grind (arith, nat_tests)

pub levels_within : (n : ℕ) → nat_le (saturated n) 64 ≡ nat_le n 64
levels_within n = grind (arith, nat_tests)
