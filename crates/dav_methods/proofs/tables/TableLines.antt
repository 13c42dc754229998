-- Lines of a table that were judged where memory may be refused.
use Rattle.std.proofs.Common.{◌≡◌, ◌⊎◌, inl, inr, ap, subst, ◌∙◌, Ok, Err}
use Rattle.dav_core.specs.declared.dav_error.DavError.TheVariants.{NoMemory}
use Rattle.dav_model.specs.declared.outcome.Outcome.{Outcome}
use Rattle.dav_walks.specs.Lines.{Line}
use Rattle.dav_methods.specs.Lines.{Given, unless}
use Rattle.dav_methods.specs.Table.{Next, Run, Unless}

out_of_memory : {S : Type 0} (line : Line) (run : Run S) (s : S) (r : Given) (t : S) → Next (Unless (Err NoMemory) run) s r t → Next (Unless line run) s r t
out_of_memory line run s r t (inl short) = inl short
out_of_memory line run s r t (inr short) = inl short

-- what follows a line, by its judgement
pub line_next : {S : Type 0} (line may : Line) (run : Run S) (s : S) (r : Given) (t : S) → (may ≡ Err NoMemory) ⊎ (may ≡ line) → Next (Unless may run) s r t
    → Next (Unless line run) s r t
line_next line may run s r t (inr is) h = subst (λ l. Next (Unless l run) s r t) is h
line_next line may run s r t (inl none) h = out_of_memory line run s r t (subst (λ l. Next (Unless l run) s r t) none h)

-- the same behind another line
pub line_behind : {S : Type 0} (first line may : Line) (run : Run S) (s : S) (r : Given) (t : S) → (may ≡ Err NoMemory) ⊎ (may ≡ line) → Next (Unless first (Unless may run)) s r t
    → Next (Unless first (Unless line run)) s r t
line_behind (Ok x) line may run s r t judged h = line_next line may run s r t judged h
line_behind (Err e) line may run s r t judged h = h

-- the answer after a line, by its judgement
pub line_answer : (line may : Line) (outcome given : Outcome) (r : Given) → (may ≡ Err NoMemory) ⊎ (may ≡ line) → r ≡ unless may given → given ≡ outcome
    → (r ≡ Err NoMemory) ⊎ (r ≡ unless line outcome)
line_answer line may outcome given r (inl none) is same = inl (is ∙ ap (λ l. unless l given) none)
line_answer line may outcome given r (inr judged) is same = inr (is ∙ (ap (λ l. unless l given) judged ∙ ap (unless line) same))
