-- Texts of several parts that are written one after the other.
use Rattle.std.proofs.Common.{◌≡◌, ℕ, List, [], ◌∷◌, ◌++◌, length, codes, sym, ap, ◌∙◌, append_assoc, append-nil}
use Rattle.std.specs.Fmt.{decimal}
use Rattle.tree_specs.specs.declared.reply.Reply.TheVariants as replies
use Rattle.tree_specs.specs.declared.report.ReportRow.{ReportRow}
use Rattle.tree_specs.specs.declared.wants.Want.{Want}
use Rattle.tree_specs.specs.Texts.Text.{reply_text, numbers_text, rows_text, want_text, newline}

-- the line that tells how many rows there are
abbrev pub rows_line : List ReportRow → List ℕ
rows_line rows = codes "reply rows" ++ numbers_text (length rows ∷ []) ++ newline

pub report_text-parts : (rows written : List ReportRow) → written ≡ rows → reply_text (replies.Rows rows) ≡ rows_text written ++ rows_line written
unfolding reply_text
report_text-parts rows written e = ap (λ rs. reply_text (replies.Rows rs)) (sym e) ∙ in_two (rows_text written) (codes "reply rows") (numbers_text (length written ∷ [])) newline
  where
    in_two : (a b c d : List ℕ) → a ++ b ++ c ++ d ≡ a ++ (b ++ c ++ d)
    in_two a b c d = simp append_assoc

-- a descriptor up to its flags
abbrev pub want_front : ℕ → List ℕ
want_front fd = numbers_text (fd ∷ []) ++ codes ":"

pub want_text-parts : (w : Want) (fd flags : ℕ) → fd ≡ w.fd → flags ≡ w.flags → want_text w ≡ want_front fd ++ decimal flags
want_text-parts w fd flags fd_is flags_is =
    ap (λ (l : List ℕ). (32 ∷ (l ++ codes ":")) ++ decimal w.flags) (sym (append-nil (decimal w.fd)))
    ∙ ap (λ n. want_front n ++ decimal w.flags) (sym fd_is)
    ∙ ap (λ n. want_front fd ++ decimal n) (sym flags_is)
