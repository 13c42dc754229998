use Rattle.std.proofs.Common.{◌≡◌, ◌∙◌, Option, Some, option_map, IfSome, sym, ap, subst}
use Rattle.dav_serve.proofs.OneIsSaid.{serving_says_no_mirror, serving_says_no_seed, unheard, unsaid}
use Rattle.dav_serving.proofs.StatusByInput.{completes}
use Rattle.dav_serve.proofs.run.run.Goals as goal

-- what the words set, by what was read of them
said_as : {A B : Type 0} (f : A → B) (read : Option A) (said : Option B) → option_map f read ≡ said → (x : A) → read ≡ Some x → said ≡ Some (f x)
said_as f read said e x is = sym e ∙ ap (option_map f) is

for_said : {B : Type 0} (P : B → Type 0) (said : Option B) (x : B) → said ≡ Some x → P x → IfSome said P
for_said P said x e p = subst (λ z. IfSome z P) (sym e) p

pub returns-in-Ok-clause-complete : goal.returns-in-Ok-clause-complete
returns-in-Ok-clause-complete g c =
    for_said _ _ _ (said_as _ _ _ c.options_said.ensures _ c.in-Some.is) (completes _ _ _ _ c.in-Ok.ending c.status.ensures c.in-Ok.ensures.ends)

-- words that say how to serve say no large input
pub returns-in-Ok-clause-benches : goal.returns-in-Ok-clause-benches
returns-in-Ok-clause-benches g c =
    unsaid _ _ (serving_says_no_seed c.args.words.now _ (said_as _ _ _ c.options_said.ensures _ c.in-Some.is))

pub returns-in-Err-clause-benches : goal.returns-in-Err-clause-benches
returns-in-Err-clause-benches g c =
    unsaid _ _ (serving_says_no_seed c.args.words.now _ (said_as _ _ _ c.options_said.ensures _ c.in-Some.is))

-- nor that the tree is fetched
pub returns-in-Ok-clause-mirrors : goal.returns-in-Ok-clause-mirrors
returns-in-Ok-clause-mirrors g c =
    unheard _ (serving_says_no_mirror c.args.words.now _ (said_as _ _ _ c.options_said.ensures _ c.in-Some.is))

pub returns-in-Err-clause-mirrors : goal.returns-in-Err-clause-mirrors
returns-in-Err-clause-mirrors g c =
    unheard _ (serving_says_no_mirror c.args.words.now _ (said_as _ _ _ c.options_said.ensures _ c.in-Some.is))
