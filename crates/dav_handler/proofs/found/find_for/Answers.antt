use Rattle.std.proofs.Common.{◌∙◌, refl, subst, true, Ok, Err}
use Rattle.http.specs.Request.{head_of}
use Rattle.dav_model.specs.Gates.{bulk_of, gates}
use Rattle.dav_local.specs.Made.{MadeAt}
use Rattle.dav_local.proofs.Dating.{made_same}
use Rattle.dav_handler.specs.By.{by_store, over_of}
use Rattle.dav_handler.specs.Found.{Finds}
use Rattle.dav_handler.proofs.Serving.{found_by, led_by, starved_by}
use Rattle.dav_handler.proofs.found.find_for.Goals as goal

pub returns-clause-done : goal.returns-clause-done
returns-clause-done g c =
    subst (λ b. Finds (over_of g.D.Disk.state g.R.Remember.state c.args.settings.now c.args.store.now) (record { fields = (head_of c.args.request.now).headers; body = b }) (gates c.args.settings.now true (head_of c.args.request.now) (bulk_of b)) (Err c.in-Err.error) (over_of g.D.Disk.state g.R.Remember.state c.args.settings.now c.find.new.fs)) (c.as_slice.ensures ∙ c.body.ensures)
    (starved_by _ (λ x. by_store g.R.Remember.state c.args.settings.now x) tt c.args.store.now (head_of c.args.request.now) c.as_slice.result.now c.in-Err.error c.find.new.fs _ c.in-Err.ensures.done
    c.local_stores_serve.ensures)

pub returns-in-Ok-clause-done : goal.returns-in-Ok-clause-done
returns-in-Ok-clause-done g c = rw c.give.ensures.rest (
    subst (λ b. Finds (over_of g.D.Disk.state g.R.Remember.state c.args.settings.now c.args.store.now) (record { fields = (head_of c.args.request.now).headers; body = b }) (gates c.args.settings.now true (head_of c.args.request.now) (bulk_of b)) (Ok c.give.result)
    (record { by = by_store g.R.Remember.state c.args.settings.now c.find.new.fs; disk = g.D.Disk.state c.give.new.store.disk })) (c.as_slice.ensures ∙ c.body.ensures)
    (found_by _ (λ x. by_store g.R.Remember.state c.args.settings.now x) tt c.args.store.now (head_of c.args.request.now) c.as_slice.result.now c.in-Ok.found c.give.result c.find.new.fs (g.D.Disk.state c.give.new.store.disk) _ c.in-Ok.ensures.done
    c.local_stores_serve.ensures c.give.ensures.outcome c.give.ensures.gives))

pub returns-clause-made : goal.returns-clause-made
returns-clause-made g c = led_by _ (λ x. by_store g.R.Remember.state c.args.settings.now x) tt c.args.store.now (head_of c.args.request.now) c.as_slice.result.now (Err c.in-Err.error) c.find.new.fs _ c.in-Err.ensures.done
    c.local_stores_serve.ensures (λ t. MadeAt c.args.store.now.moment (g.R.Remember.state c.args.store.now.memory) (g.R.Remember.state t.memory))
    (made_same _ _ _ refl refl) (λ t led. (c.entries_have_the_moment.ensures.reads t led).1) (λ t led. (c.entries_have_the_moment.ensures.writes t led).1)

pub returns-in-Ok-clause-made : goal.returns-in-Ok-clause-made
returns-in-Ok-clause-made g c = rw c.give.ensures.rest (led_by _ (λ x. by_store g.R.Remember.state c.args.settings.now x) tt c.args.store.now (head_of c.args.request.now) c.as_slice.result.now (Ok c.in-Ok.found) c.find.new.fs _ c.in-Ok.ensures.done
    c.local_stores_serve.ensures (λ t. MadeAt c.args.store.now.moment (g.R.Remember.state c.args.store.now.memory) (g.R.Remember.state t.memory))
    (made_same _ _ _ refl refl) (λ t led. (c.entries_have_the_moment.ensures.reads t led).1) (λ t led. (c.entries_have_the_moment.ensures.writes t led).1))
