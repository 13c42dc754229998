use Rattle.std.proofs.Common.{◌≡◌, rules}
use Rattle.dav_core.specs.DavPath.{link_of, shown}
use Rattle.dav_mirror.proofs.Targets.{link_is_input, link_is_path}
use Rattle.dav_mirror.proofs.asking.target_of.Goals as goal
use Rattle.dav_core.proofs.UriPaths.{not_so, out_of_memory_by}

pub returns-in-Ok : goal.returns-in-Ok
returns-in-Ok c = λ can.
    let text : c.as_str.result.now ≡ link_of (shown c.args.path.now) = search rules in
    link_is_path c.args.path.now c.from.result c.as_str.result.now c.in-Ok.target can text c.in-Ok.ensures.ok.1 c.from.ensures

pub returns : goal.returns
returns c = λ can.
    let text : c.as_str.result.now ≡ link_of (shown c.args.path.now) = search rules in
    c.in-Err-Invalid.ensures.err (λ out. not_so (out_of_memory_by _ _ out c.in-Err-Invalid.field-0-is)) (link_is_input c.args.path.now c.as_str.result.now can text)
