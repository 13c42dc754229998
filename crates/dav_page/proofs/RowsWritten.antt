-- The texts of rows.
use Rattle.std.proofs.Common.{◌≡◌, ◌+◌, ◌<◌, ℕ, Bool, true, false, List, [], ◌∷◌, ◌++◌, Option, Some, None, codes, encode_utf8_all, length, take, get_or, refl, sym, ap, ap₂, ◌∙◌, subst, IsUtf8, append_assoc, append-nil}
use Rattle.std.specs.List.{AllZip, flat_map}
use Rattle.std.specs.Str.{chars, is_utf8}
use Rattle.std.proofs.lemmas.Grind.{flat_map-append}
use Rattle.std.proofs.lemmas.List.{take_more}
use Rattle.std.proofs.lemmas.Str.{IsUtf8-append, IsUtf8-from_is_utf8, IsUtf8-nil, chars-append, encodes-append, is_utf8-from_IsUtf8}
use Rattle.htmlescape.specs.declared.alphabet.Alphabet.TheVariants.{Minimal}
use Rattle.htmlescape.specs.Escapes.{encoded, escaped, minimal_entity}
use Rattle.dav_io.proofs.Ends.{zip_push}
use Rattle.dav_core.specs.declared.member.Member.{Member}
use Rattle.dav_core.specs.declared.time.FileTime.{FileTime}
use Rattle.dav_core.specs.DavPath.{WebPath, final_slash, link_byte, link_of, shown, slashed}
use Rattle.dav_core.specs.Info.{known, natural}
use Rattle.dav_core.specs.Path.{Names}
use Rattle.dav_core.specs.Tree.{is_dir}
use Rattle.dav_page.specs.Index.{IsRowBelow, IsRowText, name_text}
use Rattle.dav_page.specs.Listed.{IsDateOf, path_of, shown_name}
use Rattle.dav_page.specs.Pages.{IsName, Leads, RowTexts, is_date, row_text}
use Rattle.dav_page.proofs.Crumbs.{slash_utf8}
use Rattle.dav_page.proofs.Shown.{minute_fits}
use Rattle.dav_page.proofs.Written.{link_written, name_written}

date_fits : (time : Option FileTime) (text : List ℕ) → IsDateOf time text → is_date text ≡ true
date_fits None text e = ap is_date e
date_fits (Some time) text m = minute_fits (natural time.secs) text m

-- the path of a directory with its final slash
abbrev above : WebPath → List ℕ
above dir = shown (record dir { slash = true })

names_below : (names : Names) (name end : List ℕ)
    → flat_map slashed (names ++ name ∷ []) ++ end ≡ (flat_map slashed names ++ codes "/") ++ (name ++ end)
names_below names name end =
    ap (λ t. t ++ end) (flat_map-append slashed names (name ∷ []) ∙ ap (λ t. flat_map slashed names ++ t) (append-nil (slashed name)))
    ∙ (append_assoc (flat_map slashed names) (slashed name) end ∙ sym (append_assoc (flat_map slashed names) (codes "/") (name ++ end)))

-- The path of a member goes on behind that of its directory.
path_below : (dir : WebPath) (m : Member) → shown (path_of dir m) ≡ above dir ++ (m.name ++ final_slash (is_dir m.kind))
path_below dir m =
    ap (λ t. flat_map slashed dir.prefix ++ t) (names_below dir.names m.name (final_slash (is_dir m.kind)))
    ∙ sym (append_assoc (flat_map slashed dir.prefix) (flat_map slashed dir.names ++ codes "/") (m.name ++ final_slash (is_dir m.kind)))

-- A slash is its own link.
slash_links : (slash : Bool) → link_of (final_slash slash) ≡ final_slash slash
slash_links true = refl
slash_links false = refl

-- And so does its link.
link_below : (dir : WebPath) (m : Member)
    → link_of (above dir) ++ (link_of m.name ++ final_slash (is_dir m.kind)) ≡ link_of (shown (path_of dir m))
link_below dir m =
    sym (ap link_of (path_below dir m)
    ∙ (flat_map-append link_byte (above dir) (m.name ++ final_slash (is_dir m.kind))
    ∙ ap (λ t. link_of (above dir) ++ t)
    (flat_map-append link_byte m.name (final_slash (is_dir m.kind)) ∙ ap (λ t. link_of m.name ++ t) (slash_links (is_dir m.kind)))))

ended_utf8 : (text : List ℕ) (slash : Bool) → IsUtf8 text → IsUtf8 (text ++ final_slash slash)
ended_utf8 text true utf8 = IsUtf8-append text (codes "/") utf8 (IsUtf8-from_is_utf8 (codes "/") slash_utf8)
ended_utf8 text false utf8 = IsUtf8-append text [] utf8 IsUtf8-nil

path_utf8 : (dir : WebPath) (m : Member) → IsUtf8 (above dir) → IsUtf8 m.name → is_utf8 (shown (path_of dir m)) ≡ true
path_utf8 dir m front name =
    is_utf8-from_IsUtf8 (shown (path_of dir m))
    (subst IsUtf8 (sym (path_below dir m))
    (IsUtf8-append (above dir) (m.name ++ final_slash (is_dir m.kind)) front (ended_utf8 m.name (is_dir m.kind) name)))

slash_text : name_text (codes "/") ≡ codes "/"
unfolding chars minimal_entity escaped lib.Utf8.encode
slash_text = refl

-- A slash behind a name stands behind its text.
pub name_ended : (name : List ℕ) (slash : Bool) → IsUtf8 name → name_text (name ++ final_slash slash) ≡ name_text name ++ final_slash slash
name_ended name true utf8 =
    ap (λ t. encode_utf8_all (encoded Minimal t)) (chars-append name (codes "/") utf8)
    ∙ (ap encode_utf8_all (flat_map-append (escaped Minimal) (chars name) (chars (codes "/")))
    ∙ (encodes-append (encoded Minimal (chars name)) (encoded Minimal (chars (codes "/"))) ∙ ap (λ t. name_text name ++ t) slash_text))
name_ended name false utf8 = ap name_text (append-nil name) ∙ sym (append-nil (name_text name))

-- Where the link of its directory is known, a row below it is a member's.
pub row_written : (dir : WebPath) (m : Member) (below text : List ℕ) → below ≡ link_of (above dir) → IsUtf8 (above dir)
    → IsRowBelow below m text → IsRowText dir m text
row_written dir m below text is front row =
    let link = row.link ∙ (ap (λ b. b ++ (link_of m.name ++ final_slash (is_dir m.kind))) is ∙ link_below dir m) in
    let leads = link_written (shown (path_of dir m)) (path_utf8 dir m front row.named) in
    let name = name_written (shown_name m) (is_utf8-from_IsUtf8 (shown_name m) (ended_utf8 m.name (is_dir m.kind) row.named)) in
    record {
      texts = row.texts;
      row = record { path = shown (path_of dir m); name = shown_name m; date = row.texts.date; size = row.texts.size };
      written = ap₂ (λ l n. record { link = l; name = n; date = row.texts.date; size = row.texts.size }) link row.name;
      spells = row.spells;
      utf8 = is_utf8-from_IsUtf8 text row.utf8;
      reads = record {
        path = subst (λ l. Leads l (shown (path_of dir m))) (sym link) leads;
        name = subst (λ n. IsName n (shown_name m)) (sym row.name) name;
        date_is = refl;
        date = date_fits (known m.modified) row.texts.date row.date;
        size_is = refl;
        size = row.fits;
      };
      of = record { path = refl; name = refl; date = row.date; size = row.size };
    }

-- A text behind which something is written goes on behind what was before.
pub goes_on : (before after more rest : List ℕ) → after ≡ before ++ more → after ++ rest ≡ before ++ (more ++ rest)
goes_on before after more rest e = ap (λ t. t ++ rest) e ∙ append_assoc before more rest

-- What is written piece by piece is a row.
pub row_made : (t : RowTexts) (s0 s1 s2 s3 s4 s5 s6 s7 s8 s9 : List ℕ) → s0 ≡ [] → s1 ≡ s0 ++ codes "<tr><td><a href=\"" → s2 ≡ s1 ++ t.link
    → s3 ≡ s2 ++ codes "\">" → s4 ≡ s3 ++ t.name → s5 ≡ s4 ++ codes "</a></td><td class=\"mono\">" → s6 ≡ s5 ++ t.date
    → s7 ≡ s6 ++ codes "</td><td class=\"mono\" align=\"right\">" → s8 ≡ s7 ++ t.size → s9 ≡ s8 ++ codes "</td></tr>" → s9 ≡ row_text t
row_made t s0 s1 s2 s3 s4 s5 s6 s7 s8 s9 e0 e1 e2 e3 e4 e5 e6 e7 e8 e9 =
    let r8 = codes "</td></tr>" in
    let r7 = t.size ++ r8 in
    let r6 = codes "</td><td class=\"mono\" align=\"right\">" ++ r7 in
    let r5 = t.date ++ r6 in
    let r4 = codes "</a></td><td class=\"mono\">" ++ r5 in
    let r3 = t.name ++ r4 in
    let r2 = codes "\">" ++ r3 in
    let r1 = t.link ++ r2 in
    e9 ∙ (goes_on s7 s8 t.size r8 e8 ∙ (goes_on s6 s7 (codes "</td><td class=\"mono\" align=\"right\">") r7 e7
    ∙ (goes_on s5 s6 t.date r6 e6 ∙ (goes_on s4 s5 (codes "</a></td><td class=\"mono\">") r5 e5
    ∙ (goes_on s3 s4 t.name r4 e4 ∙ (goes_on s2 s3 (codes "\">") r3 e3
    ∙ (goes_on s1 s2 t.link r2 e2 ∙ (goes_on s0 s1 (codes "<tr><td><a href=\"") r1 e1
    ∙ ap (λ s. s ++ (codes "<tr><td><a href=\"" ++ r1)) e0))))))))

-- One more of the first list, and its like at the end of the second.
pub zip_more : {A B : Type 0} (R : A → B → Type 0) (xs : List A) (ys : List B) (i : ℕ) (d : A) (y : B) → i < length xs → AllZip R (take i xs) ys
    → R (get_or xs i d) y
    → AllZip R (take (i + 1) xs) (ys ++ y ∷ [])
zip_more R xs ys i d y lt h r = subst (λ l. AllZip R l (ys ++ y ∷ [])) (sym (take_more xs i d lt)) (zip_push R (take i xs) ys (get_or xs i d) y h r)
