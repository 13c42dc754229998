use Rattle.std.proofs.Common.{◌∙◌, IsUtf8, subst, sym}
use Rattle.dav_methods.proofs.texts.Addresses.{read_err, read_ok, unread}
use Rattle.dav_methods.proofs.destination.path_in.Goals as goal

pub returns-in-Ok-clause-ok : goal.returns-in-Ok-clause-ok
returns-in-Ok-clause-ok c = read_ok c.args.text.now c.in-Ok.text.now c.args.prefix.now c.from_str_and_prefix.result (c.in-Ok.ensures.cases.0 ∙ c.before_query.ensures) c.from_str_and_prefix.ensures.ok

pub returns-in-Ok-clause-err : goal.returns-in-Ok-clause-err
returns-in-Ok-clause-err c = read_err c.args.text.now c.in-Ok.text.now c.args.prefix.now c.from_str_and_prefix.result (c.in-Ok.ensures.cases.0 ∙ c.before_query.ensures) c.from_str_and_prefix.ensures.err

pub returns-in-Err-clause-err : goal.returns-in-Err-clause-err
returns-in-Err-clause-err c = λ other. unread c.args.text.now c.args.prefix.now (λ whole. c.in-Err.ensures.cases.0 (subst IsUtf8 (sym c.before_query.ensures) whole))
