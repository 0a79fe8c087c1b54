-- Text put into a buffer piece by piece.
use Rattle.std.proofs.Common.{◌≡◌, ℕ, ◌≤◌, List, ◌++◌, length, take, drop, Option, None, Some, ap, ◌∙◌, arith, append_assoc, subst, [], ◌∷◌, length-append, length-drop}
use Rattle.std.proofs.lemmas.List.{flat_map_more, length-take-le, take_at}
use Rattle.std.proofs.lemmas.Slice.{drop-append-drop}
use Rattle.tape.specs.Lent.{IsPut, Puts}
use Rattle.tape.specs.Lines.{line_text, text_of}
use Rattle.tape.specs.declared.line.Line.{Line}

-- Up to the end of a piece a buffer is as long as that end says.
to_end : (before after : List ℕ) (start : ℕ) (piece : List ℕ) (end : ℕ) → IsPut before start piece end after → length (take start before ++ piece) ≡ end
to_end before after start piece end p =
    let within : start ≤ length before = omega (arith, p.place, p.fits) in
    omega (arith, length-append (take start before) piece, length-take-le start before within, p.place)

-- A buffer keeps its length.
pub keeps_length : (before after : List ℕ) (start : ℕ) (piece : List ℕ) (end : ℕ) → IsPut before start piece end after → length after ≡ length before
keeps_length before after start piece end p =
    let long = to_end before after start piece end p in
    ap length p.buffer ∙ omega (arith, length-append (take start before ++ piece) (drop end before), length-drop end before, p.fits)

-- A piece behind a piece is one piece.
pub puts_both : (before mid after : List ℕ) (start place : ℕ) (a b : List ℕ) (end : Option ℕ) → IsPut before start a place mid → Puts mid place b end after → Puts before start (a ++ b) end after
puts_both before mid after start place a b None p q =
    let same = keeps_length before mid start a place p in
    (q.0 ∙ same, omega (arith, q.1, p.place, length-append a b))
puts_both before mid after start place a b (Some end) p q =
    let long = to_end before mid start a place p in
    let same = keeps_length before mid start a place p in
    let front : take place mid ≡ take start before ++ a = ap (take place) p.buffer ∙ take_at (take start before ++ a) (drop place before) place long in
    let rest : drop end mid ≡ drop end before =
    ap (drop end) p.buffer ∙ drop-append-drop place before (take start before ++ a) end (omega (arith, q.place)) long in
    record {
      place = omega (arith, q.place, p.place, length-append a b);
      fits = omega (arith, q.fits, same);
      buffer = q.buffer ∙ rw (front, rest) (ap (λ (xs : List ℕ). xs ++ drop end before) (append_assoc (take start before) a b));
    }

-- A line behind lines.
pub puts_line : (before mid after : List ℕ) (place : ℕ) (lines : List Line) (line : Line) (end : Option ℕ) → IsPut before 0 (text_of lines) place mid →
    Puts mid place (line_text line ++ 0x0A ∷ []) end after → Puts before 0 (text_of (lines ++ line ∷ [])) end after
puts_line before mid after place lines line end p q =
    subst (λ (text : List ℕ). Puts before 0 text end after) (flat_map_more (λ (l : Line). line_text l ++ 0x0A ∷ []) [] lines line)
    (puts_both before mid after 0 place (text_of lines) (line_text line ++ 0x0A ∷ []) end p q)
