-- A run with one call more.
use Rattle.std.proofs.Common.{◌≡◌, ℕ, ◌+◌, ◌<◌, List, [], ◌∷◌, ◌++◌, length, map, take, drop, set, get_or, sym, refl, ap, ◌∙◌, arith}
use Rattle.std.proofs.lemmas.Grind.{drop_more_same}
use Rattle.std.proofs.lemmas.List.{take_more, take_more_set, map-append, drop-set-lt, take_all}
use Rattle.job_calls.specs.declared.answer.Answer.{Answer}
use Rattle.jobs.specs.declared.call.Call.{Call}
use Rattle.jobs.specs.Asking.{asked}
use Rattle.job_calls.specs.Calls.{State, Asked, Got, performed, Ran, behind, run}

abbrev pub further : Ran → Asked → Ran
further r c = let g = performed r.state r.memory c in record { answers = r.answers ++ g.answer ∷ []; memory = g.memory; state = g.state }

pub run_further : (s : State) (m : List ℕ) (cs : List Asked) (c : Asked) → run s m (cs ++ c ∷ []) ≡ further (run s m cs) c
run_further s m [] c = refl
run_further s m (d ∷ cs) c = let g = performed s m d in ap (behind g.answer) (run_further g.state g.memory cs c)

-- the calls so far and one more, whose answer is written behind the others
pub one_more : (s : State) (m : List ℕ) (cs : List Call) (at : ℕ) (d : Call) (answers : List Answer) (now : List ℕ) (t : State) (a : Answer) (memory : List ℕ) (u : State)
    → at < length cs → at < length answers
    → record { answers = take at answers; memory = now; state = t } ≡ run s m (map asked (take at cs))
    → record { answer = a; memory = memory; state = u } ≡ performed t now (asked (get_or cs at d))
    → record { answers = take (at + 1) (set answers at a); memory = memory; state = u } ≡ run s m (map asked (take (at + 1) cs))
one_more s m cs at d answers now t a memory u h k so_far one =
    let c = asked (get_or cs at d) in
    let calls : map asked (take (at + 1) cs) ≡ map asked (take at cs) ++ c ∷ [] = ap (map asked) (take_more cs at d h) ∙ map-append asked (take at cs) (get_or cs at d ∷ []) in
    ap (λ l. record { answers = l; memory = memory; state = u }) (take_more_set answers at a k)
    ∙ ap (λ (g : Got). record { answers = take at answers ++ g.answer ∷ []; memory = g.memory; state = g.state }) one
    ∙ ap (λ r. further r c) so_far
    ∙ sym (run_further s m (map asked (take at cs)) c)
    ∙ ap (run s m) (sym calls)

-- the answers behind are as they were
pub behind_it : (at : ℕ) (answers old : List Answer) (a : Answer) → drop at answers ≡ drop at old → drop (at + 1) (set answers at a) ≡ drop (at + 1) old
behind_it at answers old a e = drop-set-lt (at + 1) answers at a (omega arith) ∙ drop_more_same answers old at e

-- all calls were performed
pub all_done : (s : State) (m : List ℕ) (cs : List Call) (at count : ℕ) (answers : List Answer) (now : List ℕ) (t : State) → at ≡ count → length cs ≡ count
    → record { answers = take at answers; memory = now; state = t } ≡ run s m (map asked (take at cs))
    → record { answers = take count answers; memory = now; state = t } ≡ run s m (map asked cs)
all_done s m cs at count answers now t e l so_far =
    ap (λ n. record { answers = take n answers; memory = now; state = t }) (sym e) ∙ so_far ∙ ap (λ c. run s m (map asked c)) (take_all at cs (omega arith))
