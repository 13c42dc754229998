use Rattle.htmlescape.proofs.decode.decode_html_rw.Goals as goal

pub returns-clause-done : goal.returns-clause-done
returns-clause-done g c = (c.decode_chars.new.characters.inner, c.decode_chars.ensures.done)
