use Rattle.std.proofs.Common.{◌∙◌, sym, ap, subst, rules}
use Rattle.dav_io.proofs.Cases.{if_some}
use Rattle.dav_core.specs.DavPath.{shown}
use Rattle.dav_fetch.specs.Walk.{IsFound, IsIn}
use Rattle.dav_fetch.proofs.Children.{found_is, is_in, zip_fellow, zip_step}
use Rattle.dav_fetch.proofs.found.all_found.Goals as goal

pub loop-row-preserved : goal.loop-row-preserved
loop-row-preserved c = rw c.in_ok-push.ensures.items (zip_step (IsFound c.args.dir.now.names) c.args.rows.now c.loop-row.row-index c.row-item.result c.row-item.result c.loop-row.all.items c.in-Some.found
    (search rules) (search rules) c.loop-row.invariant
    (found_is c.args.dir.now.names c.row-item.result c.in-Some.found
    (subst (λ t. IsIn t c.row-item.result c.in-Some.found) (c.as_str.ensures.value ∙ c.in_ok-text.ensures ∙ ap shown c.requires) (if_some (IsIn c.as_str.result.now c.row-item.result) _ _ c.in-Some.is c.in_ok-found.ensures.some))))

pub returns-in_default-clause-none : goal.returns-in_default-clause-none
returns-in_default-clause-none c e found z =
    let dir = c.args.dir.now.names in
    let fellow = zip_fellow (IsFound dir) c.args.rows.now found c.loop-row.row-index c.row-item.result z (search rules) in
    let is : IsFound dir c.row-item.result fellow.0 = subst (λ r. IsFound dir r fellow.0) (search rules) fellow.1 in
    c.in_ok-found.ensures.none (search rules) fellow.0
    (subst (λ t. IsIn t c.row-item.result fellow.0) (sym (c.as_str.ensures.value ∙ c.in_ok-text.ensures ∙ ap shown c.requires)) (is_in dir c.row-item.result fellow.0 is))
