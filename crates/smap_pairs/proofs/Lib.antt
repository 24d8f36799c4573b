mod BytesLaws
mod EdgeTable
pub mod EscapesLaws
pub mod ColoursLaws
pub mod SeenLaws
mod StandLaws
mod SeenExamples
mod TokenLaws
mod SeenBytesLaws
mod WholeLaws
mod ApartLaws
mod MarksLaws
mod MarksExamples
mod VirtualLineLaws
mod CoverLaws
mod NoMarkLaws
mod PairsLaws
mod PairExamples
pub mod BackLaws
pub mod RootLaws
pub mod PathLaws
mod WordLaws
mod LineEndLaws
mod BracketLaws
mod BehindExamples
mod FrameUrlExamples
mod WordExamples
mod BehindLaws
mod NamedLaws
mod MostLaws
mod RestLaws
mod NotingLaws
mod PairAtLaws
mod LinePlacesLaws
pub mod FewLaws
mod PartedLaws
mod PairPlaceLaws
mod FramePlaceLaws
mod NamedFrameLaws
mod BareLaws
pub mod SpansLaws
mod LinePlacesExamples
mod ChunkLaws
mod ChunkExamples
pub mod JsonLaws
mod JsonExamples
mod EscapeStates
pub mod LineEndStates
mod EdgeStates
mod LineStates
mod OpenStates
pub mod NamedPlaces
mod QuoteStates
mod WordPlaces
pub mod StringPlaceLaws
pub mod FrontLaws
