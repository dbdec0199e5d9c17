-- A list that is read byte by byte has the numbers of its pieces.
use Rattle.std.specs.Prelude.{◌≡◌, ◌==◌, ◌&&◌, ◌+◌, ◌*◌, ◌^◌, ◌≤◌, ◌<◌, ℕ, Bool, true, false, List, [], ◌∷◌, ◌++◌, length, map, drop, get_or, nat_lt, Option, Some, None, option_and_then, unwrap_or, if◌then◌else◌, refl}
use Rattle.std.specs.List.{list_all}
use Rattle.std.specs.Char.{digit_value, is_ascii_digit}
use Rattle.std.specs.Str.Parse.{digits_value, digits_value_after}
use Rattle.std.proofs.Common.{◌∙◌, ap, ap₂, sym, arith, append_assoc, append-nil}
use Rattle.std.proofs.lemmas.List.{at_drop_more}
use Rattle.std.proofs.lemmas.Bool.{lt-ltb}
use Rattle.std.proofs.lemmas.Bool.Decides.{nat_tests}
use Rattle.main_commands.specs.Numbers.{is_pick, picks_of, pieces}
use Rattle.main_commands.specs.Steps.{longer}

-- ---- one piece

-- a piece behind digits that were read: none, or some that write this number
abbrev piece_after : Option ℕ → List ℕ → Option ℕ
piece_after begun [] = begun
piece_after None (b ∷ bs) = option_and_then (λ n. piece_after (Some n) bs) (longer 0 b)
piece_after (Some m) (b ∷ bs) = option_and_then (λ n. piece_after (Some n) bs) (longer m b)

-- further digits make no number smaller
no_smaller : (n : ℕ) (ds : List ℕ) → n ≤ digits_value_after 10 n ds
no_smaller n [] = omega arith
no_smaller n (d ∷ ds) =
    let more : n * 10 + digit_value d ≤ digits_value_after 10 (n * 10 + digit_value d) ds = no_smaller (n * 10 + digit_value d) ds in omega arith

-- the number of a piece whose digits go on from a number
abbrev number_after : ℕ → List ℕ → Option ℕ
number_after n ds =
    if list_all is_ascii_digit ds && nat_lt (digits_value_after 10 n ds) (2 ^ 32) then Some (digits_value_after 10 n ds) else None

-- where a number is too large with one digit, it is so with more
too_large : (n : ℕ) (ds : List ℕ) (small : Bool) → nat_lt n (2 ^ 32) ≡ false → nat_lt (digits_value_after 10 n ds) (2 ^ 32) ≡ small → small ≡ false
too_large n ds false large is = refl
too_large n ds true large is = let more : n ≤ digits_value_after 10 n ds = no_smaller n ds in grind (arith, nat_tests)

never : (a b : Bool) → b ≡ false → (a && b) ≡ false
never true b e = e
never false b e = refl

piece_reads : (n : ℕ) (ds : List ℕ) → nat_lt n (2 ^ 32) ≡ true → piece_after (Some n) ds ≡ number_after n ds
piece_reads n [] fits = rw fits refl
piece_reads n (d ∷ ds) fits =
    go (is_ascii_digit d) refl (nat_lt (n * 10 + digit_value d) (2 ^ 32)) refl (piece_reads (n * 10 + digit_value d) ds)
  where
    go : (digit : Bool) → is_ascii_digit d ≡ digit → (small : Bool) → nat_lt (n * 10 + digit_value d) (2 ^ 32) ≡ small
        → (nat_lt (n * 10 + digit_value d) (2 ^ 32) ≡ true → piece_after (Some (n * 10 + digit_value d)) ds ≡ number_after (n * 10 + digit_value d) ds)
        → piece_after (Some n) (d ∷ ds) ≡ number_after n (d ∷ ds)
    go false digit small is later = rw digit refl
    go true digit true is later = rw (digit, is) (later is)
    go true digit false is later =
        let never_fits = never (list_all is_ascii_digit ds) _ (too_large (n * 10 + digit_value d) ds _ is refl) in
        rw (digit, is, never_fits) refl

-- a piece as it is read whole
abbrev pick_in : List ℕ → Option ℕ
pick_in piece = if is_pick piece then Some (digits_value 10 piece) else None

whole_piece : (piece : List ℕ) → piece_after None piece ≡ pick_in piece
whole_piece [] = refl
whole_piece (d ∷ ds) =
    go (is_ascii_digit d) refl (nat_lt (0 * 10 + digit_value d) (2 ^ 32)) refl (lt-ltb 0 (length (d ∷ ds)) (omega arith))
  where
    go : (digit : Bool) → is_ascii_digit d ≡ digit → (small : Bool) → nat_lt (0 * 10 + digit_value d) (2 ^ 32) ≡ small → nat_lt 0 (length (d ∷ ds)) ≡ true
        → piece_after None (d ∷ ds) ≡ pick_in (d ∷ ds)
    go false digit small is some = rw (digit, some) refl
    go true digit true is some = rw (digit, is, some) (piece_reads (0 * 10 + digit_value d) ds is)
    go true digit false is some =
        let never_fits = never (list_all is_ascii_digit ds) _ (too_large (0 * 10 + digit_value d) ds _ is refl) in
        rw (digit, is, some, never_fits) refl

-- ---- all pieces

-- pieces behind numbers that were read
abbrev pieces_after : List ℕ → List (List ℕ) → Option (List ℕ)
pieces_after picks [] = Some picks
pieces_after picks (p ∷ ps) = elim (pick_in p) [ None ↦ None | Some n ↦ pieces_after (picks ++ n ∷ []) ps ]

-- the pieces of a rest behind numbers that were read, and behind the digits of one that was begun
abbrev list_by : List ℕ → Option ℕ → (List ℕ × List (List ℕ)) → Option (List ℕ)
list_by picks begun ps =
    elim (piece_after begun ps.0) [ None ↦ None | Some n ↦ pieces_after (picks ++ n ∷ []) ps.1 ]

-- the same of a text
abbrev pub list_after : List ℕ → Option ℕ → List ℕ → Option (List ℕ)
list_after picks begun text = list_by picks begun (pieces text)

-- the pieces behind a byte, by whether it is a comma
abbrev pieces_if : Bool → ℕ → List ℕ → (List ℕ × List (List ℕ))
pieces_if comma b rest = if comma then ([], (pieces rest).0 ∷ (pieces rest).1) else (b ∷ (pieces rest).0, (pieces rest).1)

-- the numbers of pieces
all_pieces : (picks : List ℕ) (ps : List (List ℕ))
    → pieces_after picks ps ≡ (if list_all is_pick ps then Some (picks ++ map (digits_value 10) ps) else None)
all_pieces picks [] = ap Some (sym (append-nil picks))
all_pieces picks (p ∷ ps) = go (is_pick p) refl (list_all is_pick ps) refl (all_pieces (picks ++ digits_value 10 p ∷ []) ps)
  where
    go : (b : Bool) → is_pick p ≡ b → (d : Bool) → list_all is_pick ps ≡ d
        → pieces_after (picks ++ digits_value 10 p ∷ []) ps
        ≡ (if list_all is_pick ps then Some ((picks ++ digits_value 10 p ∷ []) ++ map (digits_value 10) ps) else None)
        → pieces_after picks (p ∷ ps) ≡ (if list_all is_pick (p ∷ ps) then Some (picks ++ map (digits_value 10) (p ∷ ps)) else None)
    go false is d all later =
        ap (λ (b : Bool). elim (if b then Some (digits_value 10 p) else None) [ None ↦ None | Some n ↦ pieces_after (picks ++ n ∷ []) ps ]) is
        ∙ ap (λ (b : Bool). if b && list_all is_pick ps then Some (picks ++ map (digits_value 10) (p ∷ ps)) else None) (sym is)
    go true is true all later =
        ap (λ (b : Bool). elim (if b then Some (digits_value 10 p) else None) [ None ↦ None | Some n ↦ pieces_after (picks ++ n ∷ []) ps ]) is
        ∙ later
        ∙ ap (λ (b : Bool). if b then Some ((picks ++ digits_value 10 p ∷ []) ++ map (digits_value 10) ps) else None) all
        ∙ ap Some (append_assoc picks (digits_value 10 p ∷ []) (map (digits_value 10) ps))
        ∙ ap (λ (b : Bool). if b then Some (picks ++ map (digits_value 10) (p ∷ ps)) else None)
        (sym (ap₂ (λ (x y : Bool). x && y) is all))
    go true is false all later =
        ap (λ (b : Bool). elim (if b then Some (digits_value 10 p) else None) [ None ↦ None | Some n ↦ pieces_after (picks ++ n ∷ []) ps ]) is
        ∙ later
        ∙ ap (λ (b : Bool). if b then Some ((picks ++ digits_value 10 p ∷ []) ++ map (digits_value 10) ps) else None) all
        ∙ ap (λ (b : Bool). if b then Some (picks ++ map (digits_value 10) (p ∷ ps)) else None)
        (sym (ap₂ (λ (x y : Bool). x && y) is all))

-- ---- byte by byte

-- at the beginning
pub list_begins : (text : List ℕ) → list_after [] None text ≡ picks_of text
list_begins text =
    ap (λ (o : Option ℕ). elim o [ None ↦ None | Some n ↦ pieces_after (n ∷ []) (pieces text).1 ]) (whole_piece (pieces text).0)
    ∙ all_pieces [] ((pieces text).0 ∷ (pieces text).1)

-- at a comma
list_at_comma : (picks : List ℕ) (n b : ℕ) (rest : List ℕ) → (b == 44) ≡ true
    → list_after picks (Some n) (b ∷ rest) ≡ list_after (picks ++ n ∷ []) None rest
list_at_comma picks n b rest comma =
    ap (λ (t : Bool). list_by picks (Some n) (pieces_if t b rest)) comma
    ∙ ap (λ (o : Option ℕ). elim o [ None ↦ None | Some m ↦ pieces_after ((picks ++ n ∷ []) ++ m ∷ []) (pieces rest).1 ])
    (sym (whole_piece (pieces rest).0))

list_lacks_number : (picks : List ℕ) (b : ℕ) (rest : List ℕ) → (b == 44) ≡ true → list_after picks None (b ∷ rest) ≡ None
list_lacks_number picks b rest comma = ap (λ (t : Bool). list_by picks None (pieces_if t b rest)) comma

-- at another byte
abbrev longer_piece : List ℕ → List ℕ → Option ℕ → Option (List ℕ)
longer_piece picks rest o =
    elim (option_and_then (λ n. piece_after (Some n) (pieces rest).0) o) [ None ↦ None | Some n ↦ pieces_after (picks ++ n ∷ []) (pieces rest).1 ]

list_at_byte : (picks : List ℕ) (begun : Option ℕ) (b : ℕ) (rest : List ℕ) (m : ℕ) (made : Option ℕ) → (b == 44) ≡ false → m ≡ unwrap_or begun 0
    → made ≡ longer m b → list_after picks begun (b ∷ rest) ≡ longer_piece picks rest made
list_at_byte picks None b rest m made other is more =
    ap (λ (t : Bool). list_by picks None (pieces_if t b rest)) other
    ∙ ap (longer_piece picks rest) (sym (more ∙ ap (λ (m : ℕ). longer m b) is))
list_at_byte picks (Some k) b rest m made other is more =
    ap (λ (t : Bool). list_by picks (Some k) (pieces_if t b rest)) other
    ∙ ap (longer_piece picks rest) (sym (more ∙ ap (λ (m : ℕ). longer m b) is))

-- ---- the loop

module _ (bytes : List ℕ) (i : ℕ) (inside : i < length bytes) (picks : List ℕ) (begun : Option ℕ)
    (so_far : list_after picks begun (drop i bytes) ≡ picks_of bytes) where
  -- what is left begins with the byte at hand
  at_hand : list_after picks begun (get_or bytes i 0 ∷ drop (i + 1) bytes) ≡ picks_of bytes
  at_hand = sym (at_drop_more (λ (rest : List ℕ). list_after picks begun rest) bytes i 0 inside) ∙ so_far

  pub over_comma : (picks_now : List ℕ) (begun_now : Option ℕ) (n : ℕ) → (get_or bytes i 0 == 44) ≡ true → begun ≡ Some n
      → picks_now ≡ picks ++ n ∷ [] → begun_now ≡ None → list_after picks_now begun_now (drop (i + 1) bytes) ≡ picks_of bytes
  over_comma picks_now begun_now n comma has grown gone =
      ap₂ (λ (p : List ℕ) (o : Option ℕ). list_after p o (drop (i + 1) bytes)) grown gone
      ∙ sym (list_at_comma picks n (get_or bytes i 0) (drop (i + 1) bytes) comma)
      ∙ ap (λ (o : Option ℕ). list_after picks o (get_or bytes i 0 ∷ drop (i + 1) bytes)) (sym has) ∙ at_hand

  pub over_digit : (picks_now : List ℕ) (begun_now : Option ℕ) (m n : ℕ) → (get_or bytes i 0 == 44) ≡ false → m ≡ unwrap_or begun 0
      → Some n ≡ longer m (get_or bytes i 0) → picks_now ≡ picks → begun_now ≡ Some n
      → list_after picks_now begun_now (drop (i + 1) bytes) ≡ picks_of bytes
  over_digit picks_now begun_now m n other is more same grown =
      ap₂ (λ (p : List ℕ) (o : Option ℕ). list_after p o (drop (i + 1) bytes)) same grown
      ∙ sym (list_at_byte picks begun (get_or bytes i 0) (drop (i + 1) bytes) m (Some n) other is more) ∙ at_hand

  pub stops_at_comma : (get_or bytes i 0 == 44) ≡ true → begun ≡ None → None ≡ picks_of bytes
  stops_at_comma comma has =
      sym (list_lacks_number picks (get_or bytes i 0) (drop (i + 1) bytes) comma)
      ∙ ap (λ (o : Option ℕ). list_after picks o (get_or bytes i 0 ∷ drop (i + 1) bytes)) (sym has) ∙ at_hand

  pub stops_at_byte : (m : ℕ) → (get_or bytes i 0 == 44) ≡ false → m ≡ unwrap_or begun 0 → None ≡ longer m (get_or bytes i 0) → None ≡ picks_of bytes
  stops_at_byte m other is more =
      sym (list_at_byte picks begun (get_or bytes i 0) (drop (i + 1) bytes) m None other is more) ∙ at_hand
