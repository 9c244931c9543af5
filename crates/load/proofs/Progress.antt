-- What call after call writes of a load. Assumes nothing.
use Rattle.std.proofs.Common.{◌≡◌, ℕ, ◌+◌, ◌<◌, ◌≤◌, List, [], ◌++◌, length, take, drop, refl, sym, ap, subst, append_assoc, append-nil, arith}
use Rattle.std.specs.Io.KnownBytes.{Appends}
use Rattle.std.specs.declared.option.Option.{Option}
use Rattle.std.specs.declared.result.Result.{Result}
use Rattle.std.specs.Prelude.{None, Some, Ok, Err, OnOk, IfSome, ◌^◌}
use Rattle.limits.specs.declared.Refusal.{Refusal}
use Rattle.text_parse.specs.declared.Parse.{Parse}
use Rattle.text_parse.specs.Reading.{Reads}
use Rattle.text_parse.specs.Text.{load_many, read_text}
use Rattle.load_text.specs.Text.{load_text}
use Rattle.std.proofs.Math.Seq.{take-append_seam}
use Rattle.std.proofs.lemmas.List.Edits.{sets, sets-eq}
use Rattle.load_text.specs.declared.Load.{Load}
use Rattle.load_text.specs.declared.LoadPart.{LoadPart}
use Rattle.load_text.specs.Writing.{line_max, start_of, owed, part_of, WroteSome}
use Rattle.load_spec.proofs.Buffers.{start_owes, owed_none, owed_on, part_fits}

-- of what the load owes some is written, and l owes the rest
pub record HasWritten (old new : Option (List ℕ)) (load l : Load) : Type 0 where
  pub done : List ℕ
  pub wrote : Appends old new done
  pub rest : owed load ≡ done ++ owed l

-- nothing is written yet
pub nothing_written : (known : Option (List ℕ)) {l : Load} → HasWritten known known l l
nothing_written None = record { done = []; wrote = tt; rest = refl }
nothing_written (Some xs) = record { done = []; wrote = sym (append-nil xs); rest = refl }

-- two texts, one after the other
wrote_both : (old mid new : Option (List ℕ)) (a b : List ℕ) → Appends old mid a → Appends mid new b → Appends old new (a ++ b)
wrote_both None mid new a b h k = tt
wrote_both (Some xs) None new a b h k = absurd h
wrote_both (Some xs) (Some ys) None a b h k = absurd k
wrote_both (Some xs) (Some ys) (Some zs) a b h k = rw (k, h, append_assoc) refl

-- a text that is laid from the start on is what stands there
laid_taken : (out t : List ℕ) → length t ≤ length out → take (length t) (sets out 0 t) ≡ t
laid_taken out t h = let fits : 0 + length t ≤ length out = omega (arith, h) in rw (sets-eq t out 0 fits) (take-append_seam t (drop (0 + length t) out))

-- a call with room for a line is not refused
abbrev IsRefused : Result LoadPart Refusal → Type 0
IsRefused (Ok p) = ⊥
IsRefused (Err e) = Unit {0}

pub never_refused : {l : Load} {out out' : List ℕ} {e : Refusal} → line_max ≤ length out → WroteSome l out out' (Err e) → ⊥
never_refused room w = subst IsRefused (w.written room).0 tt

-- what it answers
module _ {l : Load} {out out' : List ℕ} {r : LoadPart} (room : line_max ≤ length out) (w : WroteSome l out out' (Ok r)) where
  pub part_is : r ≡ record { length = length (part_of l (length out)).text; load = (part_of l (length out)).load }
  part_is = ap part_in (w.written room).0
    where
      part_in : Result LoadPart Refusal → LoadPart
      part_in (Ok p) = p
      part_in (Err e) = r

  pub part_taken : take r.length out' ≡ (part_of l (length out)).text
  part_taken =
      let long : r.length ≡ length (part_of l (length out)).text = ap (λ (p : LoadPart). p.length) part_is in
      rw (long, (w.written room).1) (laid_taken out (part_of l (length out)).text (part_fits l (length out) room))

  pub part_length : r.length ≤ length out
  part_length = omega (arith, ap (λ (p : LoadPart). p.length) part_is, part_fits l (length out) room)

  -- one more call, whose text is written
  pub write_more : {old mid new : Option (List ℕ)} {load : Load} → 0 < l.left → HasWritten old mid load l → Appends mid new (take r.length out') → HasWritten old new load r.load
  write_more {old = old} {mid = mid} {new = new} some h k = record {
    done = h.done ++ (part_of l (length out)).text;
    wrote = wrote_both old mid new h.done _ h.wrote (subst (Appends mid new) part_taken k);
    rest =
        let handed : r.load ≡ (part_of l (length out)).load = ap (λ (p : LoadPart). p.load) part_is in
        rw (handed, append_assoc, ← owed_on l (length out) some) h.rest;
  }

-- where nothing is left, all that is owed is written
pub write_whole : (old new : Option (List ℕ)) {load l : Load} → HasWritten old new load l → l.left ≡ 0 → Appends old new (owed load)
write_whole old new {load = load} {l = l} h e =
    let whole : owed load ≡ h.done = rw (h.rest, owed_none l e, append-nil) refl in
    subst (Appends old new) (sym whole) h.wrote

-- what a load that was started of a text owes is what the program answers to the text
pub answers : {T E : Type 0} (r : Result T E) (known old new : Option (List ℕ)) {p : Parse} {l : Load}
    → IfSome known (λ text. length text < 2 ^ 64 → Reads p text)
    → ((text : List ℕ) → length text + 1 < 2 ^ 64 → Reads p text → l ≡ start_of (read_text load_many text))
    → OnOk r (Appends old new (owed l))
    → OnOk r (IfSome known (λ text. length text + 1 < 2 ^ 64 → Appends old new (load_text text)))
answers (Err e) known old new reads starts h = tt
answers (Ok x) None old new reads starts h = tt
answers (Ok x) (Some text) old new {l = l} reads starts h = λ small.
    let owes : owed l ≡ load_text text = rw (starts text small (reads (omega arith))) (start_owes text) in
    subst (Appends old new) owes h
