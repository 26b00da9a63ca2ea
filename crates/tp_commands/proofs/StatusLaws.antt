-- What `status` prints, as it is printed one part after another, and what it is of.
use Rattle.std.proofs.Common.{◌≡◌, ◌∙◌, ◌<◌, ◌^◌, ◌+◌, ℕ, List, [], ◌∷◌, ◌++◌, ap, append_assoc, codes, length, length-append, subst, arith}
use Rattle.std.specs.Fmt.{decimal}
use Rattle.hex.specs.Hex.{encode_lower}
use Rattle.tp_opid.specs.declared.doc_id.DocId.{DocId}
use Rattle.tp_layout.specs.declared.parts.ChangeParts.{ChangeParts}
use Rattle.tp_snapshot.specs.Showing.{HasLength}
use Rattle.tp_recovery.specs.Recovery.{HasTail, Recovers}
use Rattle.tp_recovery.proofs.PieceLaws.{journal_fits}
use Rattle.tp_commands.specs.declared.status.Lock.{Lock}
use Rattle.tp_commands.specs.Status.{IsStatus, status_text}
use Rattle.tp_list.specs.Bytes.{line}

pub document_joined : (text i : List ℕ) (changes authors characters : ℕ) (i' : List ℕ) (changes' authors' : ℕ)
    → text ≡ codes "document " ++ (i ++ (codes "changes " ++ (decimal changes ++ (codes "\nauthors " ++ (decimal authors ++ (codes "\ncharacters " ++ (decimal characters ++ codes "\n")))))))
    → i ≡ line i' → changes ≡ changes' → authors ≡ authors'
    → text ≡ codes "document " ++ line i' ++ codes "changes " ++ decimal changes' ++ codes "\nauthors " ++ decimal authors' ++ codes "\ncharacters " ++ decimal characters ++ codes "\n"
document_joined text i changes authors characters i' changes' authors' spelled is cs us =
    rw (← cs, ← us)
    (subst
    (λ (x : List ℕ).
    text ≡ codes "document " ++ x ++ codes "changes " ++ decimal changes ++ codes "\nauthors " ++ decimal authors ++ codes "\ncharacters " ++ decimal characters ++ codes "\n")
    is (spelled ∙ simp append_assoc))

pub status_joined : (text l h : List ℕ) (size : ℕ) (k o l' h' k' o' : List ℕ)
    → text ≡ l ++ (h ++ (codes "bytes " ++ (decimal size ++ (codes "\n" ++ (k ++ o)))))
    → l ≡ l' → h ≡ h' → k ≡ k' → o ≡ o'
    → text ≡ l' ++ h' ++ line (codes "bytes " ++ decimal size) ++ k' ++ o'
status_joined text l h size k o l' h' k' o' spelled ls hs ks os =
    rw (← ls, ← hs, ← ks, ← os) (spelled ∙ simp append_assoc)

-- a journal and what is cut off it have fewer bytes than a number of 64 bits counts
pub journal_small : (bytes : List ℕ) (id : DocId) (C : List ChangeParts) (keep : ℕ) → Recovers bytes id C keep → keep < 2 ^ 63
journal_small bytes id C keep is = let fits = journal_fits id C is.is_id is.history in omega (arith, is.keep_is)

-- what was recovered is what the lines are of
pub status_is : (bytes tail printed : List ℕ) (id : DocId) (C : List ChangeParts) (keep rest characters : ℕ) (lock : Lock) → Recovers bytes id C keep → HasTail bytes keep tail
    → rest ≡ length tail → HasLength C characters → printed ≡ status_text id C characters (keep + rest) keep lock → IsStatus bytes lock printed
status_is bytes tail printed id C keep rest characters lock is beyond few has spelled =
    let size : keep + rest ≡ length bytes =
    let parts = ap length beyond.split ∙ length-append beyond.kept tail in omega (arith, beyond.size) in
    record {
      id = id;
      changes = C;
      text = has.0;
      keep = keep;
      recovers = is;
      is_text = has.1;
      spelled = spelled ∙ (ap (λ n. status_text id C n (keep + rest) keep lock) has.2 ∙ ap (λ n. status_text id C (length has.0) n keep lock) size);
    }
