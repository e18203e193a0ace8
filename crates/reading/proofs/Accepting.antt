-- How a text is accepted, word by word, and the term that it goes on with.
use Rattle.std.proofs.Common.{◌≡◌, ℕ, Bool, true, false, cond, List, [], ◌∷◌, ◌++◌, sym, refl, ap, ◌∙◌, subst, ap₂}
use Rattle.std.proofs.lemmas.Bool.{cond-true, cond-false}
use Rattle.tokens.specs.Tokens.{Word, Word.lpar, Word.rpar, Word.comma, Word.arrow, Word.named, Word.long, Word.illegal, Tok}
use Rattle.terms.specs.Models.{Sides}
use Rattle.vocabulary.specs.declared.flaw.Flaw.TheVariants.{Misplaced}
use Rattle.vocabulary.specs.Vocabularies.{Vocabulary}
use Rattle.reading.specs.declared.state.Use.{Use}
use Rattle.reading.specs.declared.state.Await.{Await}
use Rattle.reading.specs.declared.state.Await.TheVariants.{Term as WantsTerm, Bracket, NoBracket, After}
use Rattle.reading.specs.Sides.{Role, State, Reply, Reply.go, Reply.stop, step, step_by, fresh, whole, is_whole, Flagged, Reads, Reads.ended, Reads.next}
use Rattle.reading.specs.Flags.{bare_words, flagged}
use Rattle.reading.specs.Laws.{Read}
use Rattle.reading.specs.Documents.{Document, document, Phase.inside, Move, Move.to, Move.flawed, behind, turned, continued, move, may_end}
use Rattle.reading.specs.Outcomes.{Outcome.accepted, Outcome.refused, bare_tokens, run_on, run, spell}

-- words are read one by one to their end, where a text may end
abbrev pub Accepts : Document → List Word → Document → Type 0
Accepts d [] e = (may_end d.phase ≡ true) × (d ≡ e)
Accepts d (w ∷ ws) e = (d1 : Document) × (move d w (bare_words ws) ≡ to d1) × Accepts d1 ws e

same_bare : (ts : List Tok) → bare_tokens ts ≡ bare_words (spell ts)
same_bare [] = refl
same_bare (t ∷ ts) = refl

-- that is what it means that a run accepts its tokens
pub run_accepts : (end : ℕ) (d : Document) (ts : List Tok) (e : Document) → run end d ts ≡ accepted e → Accepts d (spell ts) e
run_accepts end d [] e h = by (may_end d.phase) h
  where
    by : (b : Bool) → cond b (accepted d) (refused Misplaced end) ≡ accepted e → (b ≡ true) × (d ≡ e)
    by true k = (refl, cc)
    by false k = cc
run_accepts end d (t ∷ ts) e h = by (λ d1. run_accepts end d1 ts e) (move d t.word (bare_tokens ts)) refl h
  where
    by : ((d1 : Document) → run end d1 ts ≡ accepted e → Accepts d1 (spell ts) e) → (m : Move) → move d t.word (bare_tokens ts) ≡ m → run_on t.at (λ d1. run end d1 ts) m ≡ accepted e → Accepts d (spell (t ∷ ts)) e
    by ih (to d1) q k = (d1, ap (move d t.word) (sym (same_bare ts)) ∙ q, ih d1 k)
    by ih (flawed f) q k = cc

pub accepts_run : (end : ℕ) (d : Document) (ts : List Tok) (e : Document) → Accepts d (spell ts) e → run end d ts ≡ accepted e
accepts_run end d [] e h = cond-true _ _ _ h.0 ∙ ap accepted h.1
accepts_run end d (t ∷ ts) e (d1, m, h) = ap (run_on t.at (λ d1. run end d1 ts)) (ap (move d t.word) (same_bare ts) ∙ m) ∙ accepts_run end d1 ts e h

-- what is accepted from where a move goes
pub arrives : {d d1 : Document} (ws : List Word) (e : Document) → to d ≡ to d1 → Accepts d1 ws e → Accepts d ws e
arrives {d} {d1} ws e q h = let is : d1 ≡ d = cc in subst (λ x. Accepts x ws e) is h

-- a whole term comes first, and what follows it is accepted behind it
pub record TermFirst (p : Role) (v : Vocabulary) (s : State) (rs : List Sides) (ws : List Word) (e : Document) : Type 0 where
  pub front : List Word
  pub after : List Word
  pub split : ws ≡ front ++ after
  pub grown : Vocabulary
  pub state : State
  pub reads : Reads p v s (flagged front after) grown state
  pub whole : is_whole state ≡ true
  pub goes : Accepts (behind p grown rs state.codes) after e

module _ (p : Role) (rs : List Sides) where
  pub term_first : (v : Vocabulary) (s : State) (ws : List Word) (e : Document) → Accepts (document v rs (inside p s)) ws e → TermFirst p v s rs ws e
  term_first v s [] e h = cc
  term_first v s (w ∷ ws) e (d1, m, h) = by (λ v1 s1. term_first v1 s1 ws e) (step p v s w (bare_words ws)) refl m
    where
      turn : ((v1 : Vocabulary) (s1 : State) → Accepts (document v1 rs (inside p s1)) ws e → TermFirst p v1 s1 rs ws e) → (v1 : Vocabulary) (s1 : State) → step p v s w (bare_words ws) ≡ go v1 s1
          → (b : Bool) → is_whole s1 ≡ b → to (cond b (behind p v1 rs s1.codes) (document v1 rs (inside p s1))) ≡ to d1 → TermFirst p v s rs (w ∷ ws) e
      turn ih v1 s1 q true i k = record {
        front = w ∷ [];
        after = ws;
        split = refl;
        grown = v1;
        state = s1;
        reads = next (record { word = w; bare = bare_words ws }) q ended;
        whole = i;
        goes = arrives ws e k h;
      }
      turn ih v1 s1 q false i k =
          let t = ih v1 s1 (arrives ws e k h) in
          record {
            front = w ∷ t.front;
            after = t.after;
            split = ap (λ l. w ∷ l) t.split;
            grown = t.grown;
            state = t.state;
            reads = next (record { word = w; bare = bare_words (t.front ++ t.after) }) (ap (λ l. step p v s w (bare_words l)) (sym t.split) ∙ q) t.reads;
            whole = t.whole;
            goes = t.goes;
          }

      by : ((v1 : Vocabulary) (s1 : State) → Accepts (document v1 rs (inside p s1)) ws e → TermFirst p v1 s1 rs ws e) → (r : Reply) → step p v s w (bare_words ws) ≡ r → continued p rs r ≡ to d1 → TermFirst p v s rs (w ∷ ws) e
      by ih (stop f) q k = cc
      by ih (go v1 s1) q k = turn ih v1 s1 q (is_whole s1) refl k

  pub first_read : {v : Vocabulary} {ws : List Word} {e : Document} (t : TermFirst p v fresh rs ws e) → Read p v t.front t.after t.state.codes t.grown
  first_read t = record { state = t.state; reads = t.reads; whole = t.whole; coded = refl }

  -- nothing is read behind a whole term
  whole_stops : {X : Type 0} (v v1 : Vocabulary) (cs : List ℕ) (us : List Use) (a : Await) (w : Word) (b : Bool) (s1 : State) → whole us a ≡ true → step_by p v (record { codes = cs; uses = us; awaits = a }) b w a ≡ go v1 s1 → X
  whole_stops v v1 cs (u ∷ us) a w b s1 i h = cc
  whole_stops v v1 cs [] WantsTerm w b s1 i h = cc
  whole_stops v v1 cs [] Bracket w b s1 i h = cc
  whole_stops v v1 cs [] NoBracket w b s1 i h = cc
  whole_stops v v1 cs [] After lpar b s1 i h = cc
  whole_stops v v1 cs [] After rpar b s1 i h = cc
  whole_stops v v1 cs [] After comma b s1 i h = cc
  whole_stops v v1 cs [] After arrow b s1 i h = cc
  whole_stops v v1 cs [] After (named n) b s1 i h = cc
  whole_stops v v1 cs [] After long b s1 i h = cc
  whole_stops v v1 cs [] After illegal b s1 i h = cc

  -- more of a term is to come as long as words of it are read
  not_whole : {v v2 : Vocabulary} {s s2 : State} {f : Flagged} {fs : List Flagged} → Reads p v s (f ∷ fs) v2 s2 → is_whole s ≡ false
  not_whole {v} {s = s} (next {v1 = v1} {s1 = s1} f h r) = by (is_whole s) refl
    where
      by : (b : Bool) → is_whole s ≡ b → is_whole s ≡ false
      by true i = whole_stops v v1 s.codes s.uses s.awaits f.word f.bare s1 i h
      by false i = i

  reads_all : {v v2 : Vocabulary} {s s2 : State} → Reads p v s [] v2 s2 → (v ≡ v2) × (s ≡ s2)
  reads_all ended = (refl, refl)

  record ReadsFirst (v : Vocabulary) (s : State) (f : Flagged) (fs : List Flagged) (v2 : Vocabulary) (s2 : State) : Type 0 where
    names : Vocabulary
    state : State
    steps : step p v s f.word f.bare ≡ go names state
    reads : Reads p names state fs v2 s2

  reads_first : {v v2 : Vocabulary} {s s2 : State} (f : Flagged) (fs : List Flagged) → Reads p v s (f ∷ fs) v2 s2 → ReadsFirst v s f fs v2 s2
  reads_first f fs (next {v1 = v1} {s1 = s1} _ h r) = record { names = v1; state = s1; steps = h; reads = r }

  -- a whole term that is read is accepted with what is accepted behind it
  pub term_accepted : (x : Word) (xs after : List Word) (v v1 : Vocabulary) (s s1 : State) (e : Document) → Reads p v s (flagged (x ∷ xs) after) v1 s1 → is_whole s1 ≡ true
      → Accepts (behind p v1 rs s1.codes) after e → Accepts (document v rs (inside p s)) (x ∷ xs ++ after) e
  term_accepted x [] after v v1 s s1 e r i h =
      let f = reads_first (record { word = x; bare = bare_words after }) [] r in
      let (a, b) = reads_all f.reads in (
        turned p f.names rs f.state,
        ap (continued p rs) f.steps,
        subst (λ d. Accepts d after e) (sym (ap₂ (λ n q. turned p n rs q) a b ∙ cond-true _ _ _ i)) h,
      )
  term_accepted x (y ∷ ys) after v v1 s s1 e r i h =
      let f = reads_first (record { word = x; bare = bare_words (y ∷ ys ++ after) }) (flagged (y ∷ ys) after) r in (
        turned p f.names rs f.state,
        ap (continued p rs) f.steps,
        subst (λ d. Accepts d (y ∷ ys ++ after) e) (sym (cond-false _ _ _ (not_whole f.reads))) (term_accepted y ys after f.names v1 f.state s1 e f.reads i h),
      )
