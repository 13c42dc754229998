use Rattle.std.proofs.Common.{ℕ, List, [], arith, subst, sym, ap, ◌∙◌, rules}
use Rattle.http_uri.specs.Uri.{Spells, SpellsNone}
use Rattle.http_header.specs.HeaderMap.{append_all}
use Rattle.http_header.specs.Token.{IsToken}
use Rattle.dav_wire.proofs.HeadLemmas.{token_same, fields_taken, kept_alike, few_fields}
use Rattle.dav_wire.proofs.Fronts.{front_same, span_same}
use Rattle.dav_wire.specs.Requests.{target}
use Rattle.dav_wire.proofs.head.read_parts.Goals as goal

pub read_method-requires : goal.read_method-requires
read_method-requires c =
    let at = c.requires.complete.1 in
    subst IsToken (sym at.method ∙ sym c.of.ensures) (token_same _ at.reads.0.method)

pub read_fields-requires-clause-fields : goal.read_fields-requires-clause-fields
read_fields-requires-clause-fields c =
    let head = c.requires.complete.0 in
    let at = c.requires.complete.1 in
    let within = c.requires.within.section.len_fits in
    fields_taken head _ _ at.reads.0 (omega (arith, at.len, c.requires.short)) (front_same c.args.buf.now _ _ c.requires.within.section.headers_fit ∙ at.fields)

pub returns-in-Err-clause-refused : goal.returns-in-Err-clause-refused
returns-in-Err-clause-refused c = λ same.
    let at = c.requires.complete.1 in
    let none = c.read_target.ensures.refused (c.in-Err.is ∙ search (rules, same)) in
    target c.requires.complete.0 _ at.reads (subst SpellsNone (span_same c.args.buf.now _ _ c.args.head.path c.in-Ok.ensures c.requires.within.path ∙ at.path) none)

pub returns-in-Ok-read_fields-clause-ok : goal.returns-in-Ok-read_fields-clause-ok
returns-in-Ok-read_fields-clause-ok c =
    let at = c.requires.complete.1 in
    record {
      head = c.requires.complete.0;
      reads = at.reads;
      len_is = at.len;
      few = few_fields _ _ _ _ at.fields c.requires.room;
      parts_are = record {
        method = c.in-Ok-read_method.ensures ∙ c.of.ensures ∙ at.method;
        uri = subst (λ (text : List ℕ). Spells text c.in-Ok-read_target.uri) (span_same c.args.buf.now _ _ c.args.head.path c.in-Ok.ensures c.requires.within.path ∙ at.path) c.in-Ok-read_target.ensures.ok;
        version = rw (← at.version) c.version.ensures;
        headers =
            c.in-Ok-read_fields.ensures.ok
            ∙ ap (append_all []) (kept_alike _ _ _ (front_same c.args.buf.now _ _ c.requires.within.section.headers_fit ∙ at.fields));
      };
    }
