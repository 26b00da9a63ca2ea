-- What a page shows, once it did what the answer says.
use Rattle.std.specs.Prelude.{◌≡◌, ◌⊎◌, Bool, IfSome, List, [], ◌∷◌, ◌++◌, true, false, Option, Some, None, Ok, MatchBool}
use Rattle.std.proofs.Common.{inl, inr, refl, subst, sym, ◌∙◌}
use Rattle.tp_layout.specs.declared.parts.ChangeParts.{ChangeParts}
use Rattle.tp_document.proofs.TextLaws.{later_changes_leave_the_text_at_heads, text_at_all_heads}
use Rattle.tp_snapshot.specs.Differences.{after_differences}
use Rattle.tp_document.specs.Editing.{EditRequest, DoesSplices}
use Rattle.tp_edit.specs.declared.splice.Splice.{Splice}
use Rattle.tp_history.proofs.HeadsLaws.{has_all-heads}
use Rattle.tp_history.proofs.NamedLaws.{In-has, In-has_all, has_all-more}
use Rattle.tp_history.specs.Heads.{heads as heads_of}
use Rattle.tp_history.specs.Named.{has_all}
use Rattle.tp_history.specs.Past.{past}
use Rattle.tp_history.specs.Sound.{Sound}
use Rattle.tp_list.proofs.Members.{In-last, In-left}
use Rattle.tp_opid.specs.declared.hash.Hash.{Hash}
use Rattle.tp_peer.specs.EditingAt.{EditsAt, StepsAt}
use Rattle.tp_peer.specs.PeerState.{PeerState}
use Rattle.tp_edit.specs.Text.{IsTextOf}
use Rattle.tp_window.specs.Windows.{IsNews, Page, ShowsText, edited_heads, with_edit, with_news}
use Rattle.tp_window.specs.declared.news.News.{News}

-- later changes leave what a page shows right
shows_later : (C D : List ChangeParts) (page : Page) → Sound (C ++ D) → ShowsText C page → ShowsText (C ++ D) page
shows_later C D page s shows = record {
  known = has_all-more C (C ++ D) page.heads (λ c i. In-left c C D i) shows.known;
  text = (later_changes_leave_the_text_at_heads C D page.heads page.text shows.known s).1 shows.text;
}

-- with what is new it shows the text now
pub shows_news : (C : List ChangeParts) (page : Page) (news : News) → Sound C → ShowsText C page → IsNews C page.heads news → ShowsText C (with_news page news)
shows_news C page news s shows is =
    let now : IsTextOf C (after_differences page.text news.differences.items) = is.leads.text page.text shows.text in
    let at : IsTextOf (past C (heads_of C)) (after_differences page.text news.differences.items) = (text_at_all_heads C _ s).1 now in
    record {
      known = subst (λ H. has_all C H ≡ true) (sym is.heads) (has_all-heads C);
      text = subst (λ H. IsTextOf (past C H) (after_differences page.text news.differences.items)) (sym is.heads) at;
    }

pub page_follows : (C D : List ChangeParts) (page : Page) (news : News) → Sound (C ++ D) → ShowsText C page → IsNews (C ++ D) page.heads news
    → ShowsText (C ++ D) (with_news page news)
page_follows C D page news s shows is = shows_news (C ++ D) page news s (shows_later C D page s shows) is

-- ---- an edit

-- what an edit that was answered did
pub done_of : (p p' : PeerState) (H : List Hash) (asked : EditRequest) (made : Option Hash) → StepsAt p H asked (Ok made) p' → EditsAt p H asked made p'
unfolding StepsAt
done_of p p' H asked made step = elim (cases_of p.stopped step) [ inl stopped ↦ let wrong = stopped.1.0 in absurd cc | inr runs ↦ runs.1 ]
  where
    cases_of : {A B : Type 0} (b : Bool) → MatchBool b A B → ((b ≡ true) × A) ⊎ ((b ≡ false) × B)
    cases_of true h = inl (refl, h)
    cases_of false h = inr (refl, h)

-- with its own edit the page shows the text at its change
pub shows_edit : (p p' : PeerState) (page : Page) (asked : EditRequest) (made : Option Hash) → ShowsText p.applied page → EditsAt p page.heads asked made p'
    → IfSome made (λ h. DoesSplices (past p.applied page.heads) (past p'.applied (h ∷ [])) asked.splices)
    → ShowsText p'.applied (with_edit page asked.splices made)
shows_edit p p' page asked None shows done does = subst (λ (q : PeerState). ShowsText q.applied page) (sym done.2) shows
shows_edit p p' page asked (Some h) shows done does = record {
  known = subst (λ (q : PeerState). has_all q.applied (h ∷ []) ≡ true) (sym done.3.2)
      (In-has_all (p.applied ++ done.0 ∷ []) (h ∷ []) (λ x i. elim i [ inl same ↦ In-has (p.applied ++ done.0 ∷ []) done.0 x (In-last done.0 p.applied) (sym (same ∙ done.3.1)) | inr none ↦ absurd none ]));
  text = does page.text shows.text;
}

-- the page's heads with its edit
edited_page : (page : Page) (splices : List Splice) (made : Option Hash) → edited_heads page.heads made ≡ (with_edit page splices made).heads
edited_page page splices None = refl
edited_page page splices (Some h) = refl

-- and with what is new since then the text now
pub shows_all : (p p' : PeerState) (page : Page) (H : List Hash) (asked : EditRequest) (made : Option Hash) (news : News) → Sound p'.applied → ShowsText p.applied page → page.heads ≡ H
    → StepsAt p H asked (Ok made) p' → IfSome made (λ h. DoesSplices (past p.applied H) (past p'.applied (h ∷ [])) asked.splices)
    → IsNews p'.applied (edited_heads H made) news
    → ShowsText p'.applied (with_edit page asked.splices made) × ShowsText p'.applied (with_news (with_edit page asked.splices made) news)
shows_all p p' page H asked made news s shows on step does is =
    let here = sym on in
    let done : EditsAt p page.heads asked made p' = subst (λ X. EditsAt p X asked made p') here (done_of p p' H asked made step) in
    let did = subst (λ X. IfSome made (λ h. DoesSplices (past p.applied X) (past p'.applied (h ∷ [])) asked.splices)) here does in
    let own : ShowsText p'.applied (with_edit page asked.splices made) = shows_edit p p' page asked made shows done did in
    let reported : IsNews p'.applied (with_edit page asked.splices made).heads news =
    subst (λ X. IsNews p'.applied X news) (edited_page page asked.splices made) (subst (λ X. IsNews p'.applied (edited_heads X made) news) here is) in
    (own, shows_news p'.applied (with_edit page asked.splices made) news s own reported)
