-- The answer is yes where each of the five tests says so.
use Rattle.std.proofs.Common.{sym, ◌∙◌}
use Rattle.std.proofs.lemmas.Bool.{false≢true}
use Rattle.model.specs.SchemeBytes.{BytesFit}
use Rattle.model.proofs.Deciding.{decided, iff}
use Rattle.tables.proofs.Places.{places}
use Rattle.fit.proofs.Fits.{fits_moves, fits_marks, fits_policies, fits_masks, fits_groups}
use Rattle.fit.proofs.bytes_fit.Goals as goal
use Rattle.fit.proofs.bytes_fit.Goals.{then-moves_fit, else-moves_fit}
use Rattle.fit.proofs.bytes_fit.Goals.{then-flags_fit, else-flags_fit}
use Rattle.fit.proofs.bytes_fit.Goals.{then-policies_fit, else-policies_fit}

pub returns-then-masks_fit : goal.returns-then-masks_fit
returns-then-masks_fit c =
    let o = places c.requires.0 c.marks_at-marks.ensures.2 c.policies_at-policies.ensures.1 c.masks_at-masks.ensures.1 c.groups_at-groups.ensures.1 in
    let r = c.requires.1 in
    elim c.if-policies_fit.branch [
      | then-policies_fit u ↦
          elim c.if-flags_fit.branch [
            | then-flags_fit w ↦
                elim c.if-moves_fit.branch [
                  | then-moves_fit v ↦
                      decided (iff
                      (λ h. record {
                        moves = (fits_moves o c.moves_fit.result r c.moves_fit.ensures).yes_if v.if-moves_fit.true;
                        friends = (fits_marks o v.flags_fit.result r v.flags_fit.ensures).yes_if (sym v.value-is ∙ w.if-flags_fit.true);
                        policies = (fits_policies o w.policies_fit.result r w.policies_fit.ensures).yes_if (sym w.value-is ∙ u.if-policies_fit.true);
                        masks = (fits_masks o u.masks_fit.result r u.masks_fit.ensures).yes_if (sym u.value-is ∙ c.if-masks_fit.true);
                        groups = h;
                      })
                      (λ f. f.groups)
                      (fits_groups o c.flags_fit-then-masks_fit.result c.min.result r c.min.ensures c.flags_fit-then-masks_fit.ensures))
                  | else-moves_fit v ↦ absurd (false≢true (sym v.if-moves_fit.false ∙ sym v.value-is ∙ w.if-flags_fit.true))
                ]
            | else-flags_fit w ↦ absurd (false≢true (sym w.if-flags_fit.false ∙ sym w.value-is ∙ u.if-policies_fit.true))
          ]
      | else-policies_fit u ↦ absurd (false≢true (sym u.if-policies_fit.false ∙ sym u.value-is ∙ c.if-masks_fit.true))
    ]

pub returns-else-masks_fit : goal.returns-else-masks_fit
returns-else-masks_fit c =
    let o = places c.requires.0 c.marks_at-marks.ensures.2 c.policies_at-policies.ensures.1 c.masks_at-masks.ensures.1 c.groups_at-groups.ensures.1 in
    let r = c.requires.1 in
    let no : BytesFit c.args.s.now → ⊥ =
    λ f.
    elim c.if-policies_fit.branch [
      | then-policies_fit u ↦ (fits_masks o u.masks_fit.result r u.masks_fit.ensures).no_if (sym u.value-is ∙ c.if-masks_fit.false) f.masks
      | else-policies_fit u ↦
          elim c.if-flags_fit.branch [
            | then-flags_fit w ↦ (fits_policies o w.policies_fit.result r w.policies_fit.ensures).no_if (sym w.value-is ∙ u.if-policies_fit.false) f.policies
            | else-flags_fit w ↦
                elim c.if-moves_fit.branch [
                  | then-moves_fit v ↦ (fits_marks o v.flags_fit.result r v.flags_fit.ensures).no_if (sym v.value-is ∙ w.if-flags_fit.false) f.friends
                  | else-moves_fit v ↦ (fits_moves o c.moves_fit.result r c.moves_fit.ensures).no_if v.if-moves_fit.false f.moves
                ]
          ]
    ] in
    rw c.if-masks_fit.false no
