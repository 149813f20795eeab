-- what a survey of the gate tells, and a moment of it, in the words of the sequential service
use Rattle.std.proofs.Common.{◌≡◌, ℕ, List, subst}
use Rattle.service_model_types.specs.declared.content.Content.{Content}
use Rattle.service_model_types.specs.declared.request.Request.{Request}
use Rattle.service_model.specs.Service.{after}
use Rattle.gate.specs.declared.view.Origin.{Origin}
use Rattle.gate.specs.declared.view.View.{View}
use Rattle.gate.specs.Moments.{IsMoment, Surveyed}
use Rattle.shard_gate.specs.Grounding.{grounds}

-- what grounds more grounds these steps too
pub surveyed-as : (goes : Content → Request → Content) (needs : List Content → ℕ → Request → Type 0) → goes ≡ after → ((contents : List Content) (s : ℕ) (q : Request) → needs contents s q → grounds contents s q)
    → (o : Origin Request Content) (v : View Request Content) (count : ℕ) → Surveyed needs goes o v count → Surveyed grounds after o v count
surveyed-as goes needs is all o v count told =
    let by_after = subst (λ (g : Content → Request → Content). Surveyed needs g o v count) is told in
    record {
      run = by_after.run;
      counts = by_after.counts;
      steps = by_after.steps;
      grounded = λ front k e stands. all _ k e.request (by_after.grounded front k e stands);
      seen = by_after.seen;
      tickets = by_after.tickets;
    }

pub moment-as : (goes : Content → Request → Content) (needs : List Content → ℕ → Request → Type 0) → goes ≡ after → ((contents : List Content) (s : ℕ) (q : Request) → needs contents s q → grounds contents s q)
    → (v : View Request Content) → IsMoment needs goes v → IsMoment grounds after v
moment-as goes needs is all v told =
    let by_after = subst (λ (g : Content → Request → Content). IsMoment needs g v) is told in
    record {
      run = by_after.run;
      steps = by_after.steps;
      grounded = λ front k e stands. all _ k e.request (by_after.grounded front k e stands);
      records = by_after.records;
      numbers = by_after.numbers;
    }
