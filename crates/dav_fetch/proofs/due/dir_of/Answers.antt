use Rattle.std.proofs.Common.{[], arith, codes, rules, subst, sym}
use Rattle.std.proofs.lemmas.Grind.{common_steps}
use Rattle.std.proofs.lemmas.Str.{is_utf8-from_IsUtf8}
use Rattle.dav_core.specs.DavPath.{IsPath}
use Rattle.dav_core.proofs.Made.{parsed_path, pushed_path, slashed_path}
use Rattle.dav_fetch.proofs.due.dir_of.Goals as goal

pub loop-name-init : goal.loop-name-init
loop-name-init c = (search rules, search rules, (parsed_path (codes "/") [] c.in-Ok.path c.in-Ok.ensures.ok).0)

pub loop-name-preserved : goal.loop-name-preserved
loop-name-preserved c = (
  grind (arith, common_steps),
  grind (arith, common_steps),
  subst IsPath (sym c.in_ok-push_segment.ensures.ok) (pushed_path c.loop-name.path c.as_str.result.now c.loop-name.invariant.2 (grind (arith, common_steps)) (is_utf8-from_IsUtf8 c.as_str.result.now c.as_str.utf8)),
)

pub returns-clause-is : goal.returns-clause-is
returns-clause-is c = subst IsPath (sym c.add_slash.ensures) (slashed_path c.loop-name.path c.loop-name.invariant.2)
