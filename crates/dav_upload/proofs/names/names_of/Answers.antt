use Rattle.std.proofs.Common.{◌≡◌, true, sym, subst, ◌∙◌}
use Rattle.dav_core.specs.Path.{is_plain}
use Rattle.dav_upload.proofs.Tokens.{token_plain}
use Rattle.dav_upload.proofs.names.names_of.Goals as goal

pub push_segment-requires : goal.push_segment-requires
push_segment-requires c = subst (λ n. is_plain n ≡ true) (sym (c.as_str.ensures.value ∙ c.in_ok-name.ensures)) (token_plain c.args.token)
