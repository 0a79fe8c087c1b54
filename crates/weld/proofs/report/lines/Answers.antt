use Rattle.std.proofs.Common.{◌≡◌, ℕ, zero, suc, ◌+◌, ◌-◌, ◌<◌, true, false, List, [], ◌∷◌, ◌++◌, length, map, get_or, set, take, refl, sym, ap, ◌∙◌, add-one, append_assoc, append-nil, arith, vec_len}
use Rattle.std.specs.List.{All, flat_map}
use Rattle.std.proofs.Math.Seq.{take-suc}
use Rattle.std.proofs.lemmas.Grind.{flat_map-append}
use Rattle.std.proofs.lemmas.List.{map-append}
use Rattle.std.proofs.lemmas.List.Elements.{All-push, All-same, All-set}
use Rattle.weld.specs.Lines.{PlacesFit, TellAll, Telling, tells, told}
use Rattle.weld.specs.declared.line.Line.{Line}
use Rattle.weld.specs.declared.passage.Event.{Event}
use Rattle.weld.proofs.report.lines.Goals as goal
use Rattle.weld.proofs.report.lines.Goals.{in-Some, in-None, then-not-told+in_ok-push, else-not-told}

-- A last line that tells more.
last_more : (lines : List Line) (i : ℕ) (line after : Line) (more : List Telling) → length lines ≡ i + 1 → line ≡ get_or lines i line →
    tells after ≡ tells line ++ more → flat_map tells (set lines i after) ≡ flat_map tells lines ++ more
last_more [] i line after more count is says = absurd (omega arith)
last_more (own ∷ []) zero line after more count is says =
    append-nil (tells after) ∙ says ∙ ap (λ (l : Line). tells l ++ more) is ∙ ap (λ (ts : List Telling). ts ++ more) (sym (append-nil (tells own)))
last_more (own ∷ next ∷ lines) zero line after more count is says = absurd (omega arith)
last_more (own ∷ lines) (suc i) line after more count is says =
    ap (λ (ts : List Telling). tells own ++ ts) (last_more lines i line after more (omega arith) is says) ∙
    sym (append_assoc (tells own) (flat_map tells lines) more)

-- A new line that tells one thing.
line_more : (lines : List Line) (line : Line) (before : List Telling) (thing : Telling) → flat_map tells lines ≡ before → tells line ≡ thing ∷ [] →
    flat_map tells (lines ++ line ∷ []) ≡ before ++ thing ∷ []
line_more lines line before thing told_before says =
    flat_map-append tells lines (line ∷ []) ∙ (λ i. told_before i ++ (append-nil (tells line) ∙ says) i)

-- Lines that tell the next thing that is seen too.
all_told : (events : List Event) (i : ℕ) (d : Event) (lines after : List Line) → i < length events → TellAll (take i events) lines →
    flat_map tells after ≡ flat_map tells lines ++ told (get_or events i d) ∷ [] → All PlacesFit after → TellAll (take (i + 1) events) after
all_told events i d lines after h so_far says fit =
    let thing = told (get_or events i d) in
    let all : map told (take (suc i) events) ≡ map told (take i events) ++ thing ∷ [] =
    ap (map told) (take-suc events i d h) ∙ map-append told (take i events) (get_or events i d ∷ []) in
    rw add-one (record { telling = says ∙ ap (λ (ts : List Telling). ts ++ thing ∷ []) so_far.telling ∙ sym all; fit = fit })

pub loop-event-preserved : goal.loop-event-preserved
loop-event-preserved c =
    let lines = c.loop-event.lines in
    let so_far = c.loop-event.invariant in
    let last = vec_len lines - 1 in
    let thing_told = all_told c.args.events.now c.loop-event.event-index _ in
    elim c.match-last_mut.branch [
      | in-Some w ↦
          let after = w.takes-told.new.self in
          let count : length lines.items ≡ last + 1 = omega (arith, lines.ok.0, w.in-Some.ensures.variant.0 refl) in
          let items = ap (λ v. v.items) w.lines-is in
          let fit = All-set PlacesFit lines.items last after w.takes-told.ensures.fit so_far.fit in
          elim c.if-not-told.branch [
            | then-not-told+in_ok-push v ↦
                let stayed : w.takes-told.result ≡ false = sym w.told-is ∙ v.if-not-told.true in
                let same = rw stayed at w.takes-told.ensures.telling in
                let told_before = last_more lines.items last w.in-Some.line.now after [] count w.in-Some.ensures.value (ap tells same ∙ sym (append-nil (tells w.in-Some.line.now))) in
                let pushed = v.in_ok-push.ensures.items ∙ (λ i. items i ++ v.from.result ∷ []) in
                rw v.lines-is (thing_told lines.items v.push.new.self.items c.loop-event-test.true so_far
                (ap (flat_map tells) pushed ∙ line_more (set lines.items last after) v.from.result (flat_map tells lines.items) _ (told_before ∙ append-nil _) v.from.ensures.telling)
                (All-same PlacesFit _ _ pushed (All-push PlacesFit (set lines.items last after) v.from.result fit v.from.ensures.fit)))
            | else-not-told v ↦
                let went : w.takes-told.result ≡ true = sym w.told-is ∙ v.if-not-told.false in
                let says = rw went at w.takes-told.ensures.telling in
                rw (v.lines-is, w.lines-is) (thing_told lines.items (set lines.items last after) c.loop-event-test.true so_far
                (last_more lines.items last w.in-Some.line.now after _ count w.in-Some.ensures.value says) fit)
          ]
      | in-None w ↦ elim c.if-not-told.branch [
        | then-not-told+in_ok-push v ↦
            let pushed = v.in_ok-push.ensures.items ∙ ap (λ now. now.items ++ v.from.result ∷ []) w.lines-is in
            rw v.lines-is (thing_told lines.items v.push.new.self.items c.loop-event-test.true so_far
            (ap (flat_map tells) pushed ∙ line_more lines.items v.from.result (flat_map tells lines.items) _ refl v.from.ensures.telling)
            (All-same PlacesFit _ _ pushed (All-push PlacesFit lines.items v.from.result so_far.fit v.from.ensures.fit)))
        | else-not-told v ↦ let no : false ≡ true = sym w.told-is ∙ v.if-not-told.false in absurd (cc)
      ]
    ]
