-- A string of bytes is read in no two ways.
use Rattle.std.proofs.Common.{◌≡◌, ℕ, ◌<◌, ◌≤◌, List, [], ◌∷◌, ◌++◌, length, get_or, rules, take, drop, cond, ◌==◌, ◌⊎◌, inl, inr, refl, sym, ap, ◌∙◌, arith, length-append, append_assoc}
use Rattle.std.proofs.lemmas.Bool.{cases_eq, cases_lt, cond_both}
use Rattle.std.proofs.lemmas.List.{append_cancel_left, get_or-take, get_or_past, length-take, length-take-le, take_at}
use Rattle.std.specs.List.{AllByRecursion as Every}
use Rattle.sss.specs.Cipher.{words_of}
use Rattle.tape.specs.Format.{Ending, Ends, Fits, IsCommandByte, Reads, at_end, bytes_of, cut_off, tape_of, unknown}
use Rattle.tape.specs.Items.{IsNext, part_of, place_of}
use Rattle.sss.specs.Bytes.{Octets}
use Rattle.tape.specs.declared.command.Command.{Command}
use Rattle.tape.specs.declared.command.Command.TheVariants.{Nonce, Sealed, Open, Part, Break, Tag}
use Rattle.tape.specs.declared.item.Item.{Item}
use Rattle.tape.specs.declared.item.Item.TheVariants as item
use Rattle.tape.specs.declared.item.WordItem.TheVariants as word
use Rattle.tape.specs.declared.piece.Piece.{Piece}
use Rattle.tape.proofs.Finding.{first_byte, found, sample, size, sized}
use Rattle.sss.proofs.Bytes.{reread}
use Rattle.tape.proofs.Spelled.{fits}

-- The byte of a command.
abbrev byte : Command → ℕ
byte c = get_or (bytes_of c) 0 0

-- The command that these bytes begin with, if they begin with one.
abbrev first : List ℕ → Command
first bytes =
    let b = get_or bytes 0 0 in
    let ws = words_of (drop 1 bytes) in
    cond (b == 0x4E) (Nonce (take 6 (drop 1 bytes)))
    (cond (b == 0x53) (Sealed (get_or ws 0 0))
    (cond (b == 0x4F) (Open (get_or ws 0 0)) (cond (b == 0x50) (Part (get_or ws 0 0) (get_or ws 1 0)) (cond (b == 0x42) Break (Tag (take 8 ws))))))

-- A whole command stands at the front of these bytes.
abbrev BeginsWhole : List ℕ → Type 0
BeginsWhole bytes = (c : Command) × (rest : List ℕ) × Fits c × (bytes ≡ bytes_of c ++ rest)

-- A command is the one that its bytes begin with, whatever follows them.
first_is : (c : Command) (rest : List ℕ) → Fits c → first (bytes_of c ++ rest) ≡ c
first_is (Nonce nonce) rest h = ap Nonce (take_at nonce rest 6 h.0)
first_is (Tag ws) rest h = ap Tag (ap (take 8) (reread ws rest h.1) ∙ take_at ws (words_of rest) 8 h.0)
first_is c rest h = grind arith

-- So bytes that are a command and something behind it are so in one way.
pub one_command : (a b : Command) (x y : List ℕ) → Fits a → Fits b → bytes_of a ++ x ≡ bytes_of b ++ y → (a ≡ b) × (x ≡ y)
one_command a b x y fa fb same =
    let e = sym (first_is a x fa) ∙ ap first same ∙ first_is b y fb in
    (e, append_cancel_left (bytes_of b) x y (rw e at same))

-- A piece with the byte and the length of some command is an item.
item_of : (c : Command) (p : Piece (byte c) (size (byte c))) → (i : Item) × (place_of i ≡ p.place) × (part_of i ≡ p.bytes.now)
item_of (Nonce nonce) p = (item.Nonce p, refl, refl)
item_of (Sealed w) p = (item.Word (word.Sealed p), refl, refl)
item_of (Open w) p = (item.Word (word.Open p), refl, refl)
item_of (Part m w) p = (item.Word (word.Part p), refl, refl)
item_of Break p = (item.Break p, refl, refl)
item_of (Tag ws) p = (item.Tag p, refl, refl)

-- An item stands at a place where bytes are left that begin with the byte of a command and are long enough for it.
stands : (c : Command) (place : ℕ) (bytes : List ℕ) → Octets bytes → get_or bytes 0 0 ≡ byte c → size (byte c) ≤ length bytes →
    (i : Item) × (rest : List ℕ) × IsNext place bytes i rest
stands c place bytes octets head long =
    let n = size (byte c) in
    let p : Piece (byte c) n = record {
      place = place;
      bytes = record { ref_ptr = (0, 0); now = take n bytes };
      command = get_or-take n bytes 0 0 (grind arith) ∙ head;
      size = length-take-le n bytes long;
      octets = λ i. grind (arith, octets i, get_or-take, get_or_past, length-take);
    } in
    let i = item_of c p in
    let f = found place n bytes i.0 i.1 i.2 in
    (i.0, f.0, f.1)

-- A command has at least one byte.
pub some : (c : Command) → 0 < length (bytes_of c)
some c = grind arith

-- The sample of a command byte is a command, and has that byte.
sample_fits : (b : ℕ) → Fits (sample b)
sample_fits b =
    cond_both (b == 0x4E) _ _ Fits (λ _. search rules)
    (λ _. cond_both (b == 0x53) _ _ Fits (λ _. omega arith)
    (λ _. cond_both (b == 0x4F) _ _ Fits (λ _. omega arith)
    (λ _. cond_both (b == 0x50) _ _ Fits (λ _. (omega arith, omega arith)) (λ _. cond_both (b == 0x42) _ _ Fits (λ _. tt) (λ _. search rules)))))

sample_kept : (b : ℕ) → IsCommandByte b → byte (sample b) ≡ b
sample_kept b k = grind arith

-- Either an item stands at a place where bytes are left, or they end there.
pub next : (place : ℕ) (bytes : List ℕ) → Octets bytes → ((i : Item) × (rest : List ℕ) × IsNext place bytes i rest) ⊎ ((e : Ending) × Ends bytes e)
next place [] octets = inr (at_end, refl)
next place (b ∷ bytes) octets =
    let c = sample b in
    let fits = sample_fits b in
    elim (cases_eq (byte c) b) [
      | inr other ↦ inr (unknown, (omega arith, λ k. other (sample_kept b k)))
      | inl is ↦
          elim (cases_lt (length (b ∷ bytes)) (length (bytes_of c))) [
            | inl less ↦ inr (cut_off, (omega arith, c, fits, is, less))
            | inr long ↦ inl (stands c place (b ∷ bytes) octets (sym is) (rw (sized c fits) at long))
          ]
    ]

-- And not both.
goes_on : (bytes : List ℕ) (e : Ending) → BeginsWhole bytes → Ends bytes e → ⊥
goes_on bytes at_end (c, rest, fits, whole) ends = omega (arith, some c, ap length whole, ap length ends, length-append (bytes_of c) rest)
goes_on bytes unknown (c, rest, fits, whole) ends = ends.1 (c, sym (ap (λ (xs : List ℕ). get_or xs 0 0) whole ∙ first_byte c rest))
goes_on bytes cut_off (c, rest, fits, whole) (any, d, more, head, less) =
    let same : byte d ≡ byte c = head ∙ ap (λ (xs : List ℕ). get_or xs 0 0) whole ∙ first_byte c rest in
    omega (arith, less, sized d more, sized c fits, ap size same, ap length whole, length-append (bytes_of c) rest)

-- Bytes end in one way.
same_ending : (bytes : List ℕ) (e d : Ending) → Ends bytes e → Ends bytes d → d ≡ e
same_ending bytes e d h k = grind arith

-- Commands and an ending behind them that are the same bytes are the same.
same : (cs ds : List Command) (x y : List ℕ) (e d : Ending) → Every Fits cs → Every Fits ds → Ends x e → Ends y d → tape_of cs ++ x ≡ tape_of ds ++ y →
    (ds ≡ cs) × (d ≡ e)
same [] [] x y e d f g h k w = (refl, same_ending x e d h (rw (← w) at k))
same [] (b ∷ ds) x y e d f g h k w = absurd (goes_on x e (b, tape_of ds ++ y, g.0, simp append_assoc at w) h)
same (a ∷ cs) [] x y e d f g h k w = absurd (goes_on y d (a, tape_of cs ++ x, f.0, simp append_assoc at (sym w)) k)
same (a ∷ cs) (b ∷ ds) x y e d f g h k w =
    let one = one_command a b (tape_of cs ++ x) (tape_of ds ++ y) f.0 g.0 (simp append_assoc at w) in
    let more = same cs ds x y e d f.1 g.1 h k one.1 in
    (cc, more.1)

-- So a tape reads in no other way.
pub same_reading : (tape : List ℕ) (cs ds : List Command) (e d : Ending) → Reads tape cs e → Reads tape ds d → (ds ≡ cs) × (d ≡ e)
same_reading tape cs ds e d r s = same cs ds r.rest s.rest e d r.fit s.fit r.ends s.ends (sym r.whole ∙ s.whole)
