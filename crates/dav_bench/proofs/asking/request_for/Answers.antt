use Rattle.std.proofs.Common.{◌≡◌, ap, ◌∙◌, arith, rules}
use Rattle.http.specs.declared.request.Parts.{Parts}
use Rattle.http_uri.specs.Uri.{uri_path}
use Rattle.dav_bench.specs.Names.{target}
use Rattle.dav_bench.proofs.Uris.{path_is_text, target_is_input}
use Rattle.dav_bench.proofs.asking.request_for.Goals as goal
use Rattle.dav_core.proofs.UriPaths.{not_so, out_of_memory_by}

pub returns : goal.returns
returns c =
    let text : c.as_str.result.now ≡ target c.args.i c.args.j = search rules in
    record {
      method = ap (λ (p : Parts). p.method) c.from_parts.ensures.head ∙ c.new-head.ensures.method;
      path = ap (λ (p : Parts). uri_path p.uri) c.from_parts.ensures.head
          ∙ path_is_text c.from.result c.as_str.result.now c.in-Ok.path c.args.i c.args.j (omega arith) (omega arith) text c.in-Ok.ensures.ok.1 c.from.ensures;
      fields = ap (λ (p : Parts). p.headers) c.from_parts.ensures.head ∙ c.new-head.ensures.headers;
      body = search rules;
    }

pub unreachable-requires : goal.unreachable-requires
unreachable-requires c =
    let text : c.as_str.result.now ≡ target c.args.i c.args.j = search rules in
    c.in-Err-Invalid.ensures.err (λ out. not_so (out_of_memory_by _ _ out c.in-Err-Invalid.field-0-is)) (rw text (target_is_input c.args.i c.args.j (omega arith) (omega arith)))
