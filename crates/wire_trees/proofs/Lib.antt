mod ReadingLemmas
mod MemberLemmas
