use Rattle.std.proofs.Common.{◌≡◌, ◌++◌, ◌∙◌, sym, subst, rules}
use Rattle.std.proofs.lemmas.List.{append_cancel_left}
use Rattle.dav_fetch.specs.Walk.{IsName}
use Rattle.dav_fetch.proofs.found.found_in.Goals as goal

pub returns-in_default-name_in-clause-none : goal.returns-in_default-name_in-clause-none
returns-in_default-name_in-clause-none c e found is =
    let parts : c.as_str.result.now ≡ c.args.dir.now ++ c.in-Some.rest.now = search rules in
    c.name_in.ensures.none (search rules) found
    (subst (λ t. IsName t found.name found.is_dir) (append_cancel_left c.args.dir.now is.0 c.in-Some.rest.now (sym is.1 ∙ sym c.as_str.ensures.value ∙ parts)) is.2)
